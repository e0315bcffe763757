-- What is added keeps the rules of a pattern, so lines that are loaded are added one after another.
use Rattle.std.proofs.Common.{◌≡◌, ℕ, ◌≤◌, Bool, true, false, cond, not, nat_le, List, [], ◌∷◌, refl, sym, ap, subst, ◌∙◌, arith}
use Rattle.std.proofs.Common.{leb-true}
use Rattle.std.specs.Prelude.{Option, None, Some, Ok, Err, IfOk, IfErr, IfSome}
use Rattle.std.specs.declared.result.Result.{Result}
use Rattle.plane_geometry.specs.declared.Point.{Point}
use Rattle.plane_geometry.specs.declared.Segment.{Segment}
use Rattle.plane_geometry.specs.SegmentOf.{segment_of}
use Rattle.plane_geometry.specs.SegmentView.{stretch_of}
use Rattle.crease_model.specs.declared.Kind.{Kind}
use Rattle.crease_model.specs.declared.Kind.TheVariants.{Edge, Mountain, Valley, Aux, Unassigned}
use Rattle.crease_model.specs.Sheet.{is_sheet, is_within_side}
use Rattle.crease_model.specs.View.{PatternView, empty_on}
use Rattle.crease_model.specs.Rules.{IsPattern, is_crease_kind, is_on_sheet, most_pieces, size_of}
use Rattle.line_split.specs.Cuts.{cuts_of}
use Rattle.crease_store.specs.declared.faults.StoreRefusal.{StoreRefusal}
use Rattle.crease_store.specs.declared.faults.StoreRefusal.TheVariants.{EdgeOffBorder, OutsideSheet, OnBorder, TooManyPieces}
use Rattle.crease_store.specs.declared.loading.LoadLine.{LoadLine}
use Rattle.crease_store.specs.declared.loading.LoadStoreFault.{LoadStoreFault}
use Rattle.crease_store.specs.Adding.{with_crease, with_line, if_it_fits, crease_cut, crease_added, line_added, edge_added, segment_refusal, added_between, add_of}
use Rattle.crease_store.specs.AddRefusals.{IsRefusedFor}
use Rattle.crease_store.specs.Answer.{refusal_of}
use Rattle.crease_store.specs.Loading.{LoadRefusal, refused_line, after_line, load_from, load_of, IsLoadRefusal, IsLoadAnswer, IsLoaded, IsFirstRefused}
use Rattle.crease_store.proofs.AddLaws.{accepted_is_added}
use Rattle.crease_store.proofs.Kept.{IsPattern-with_crease, IsPattern-with_line}
use Rattle.crease_store.proofs.Refused.{err_is, ok_is_err, refused_for}

err_is_ok : {T E F : Type 0} (x : T) (y : E) → ◌≡◌ {A = Result T E} (Err y) (Ok x) → F
err_is_ok x y e = absurd (cc)

ok_is : {T E : Type 0} (x y : T) → ◌≡◌ {A = Result T E} (Ok x) (Ok y) → x ≡ y
ok_is x y e = cc

-- a pattern that keeps the rules, on the same sheet
record IsKept (old new : PatternView) : Type 0 where
  rules : IsPattern new
  corners : new.corners ≡ old.corners

-- ---- one line

module _ (old : PatternView) (rules : IsPattern old) (sheet : is_sheet old.corners ≡ true) (new : PatternView) where
  fitted : (next : PatternView) → (size_of next ≤ most_pieces → IsKept old next) → if_it_fits next ≡ Ok new → IsKept old new
  fitted next kept e = go (nat_le (size_of next) most_pieces) refl e
    where
      go : (b : Bool) → nat_le (size_of next) most_pieces ≡ b → cond b (Ok next) (Err (TooManyPieces (size_of next))) ≡ Ok new → IsKept old new
      go true f g = subst (IsKept old) (ok_is next new g) (kept (leb-true (size_of next) most_pieces f))
      go false f g = err_is_ok new (TooManyPieces (size_of next)) g

  crease_kept : (kind : Kind) (s : Segment) → is_crease_kind kind ≡ true → crease_added old kind s ≡ Ok new → IsKept old new
  crease_kept kind s is_kind e = go (is_on_sheet old.corners (stretch_of s)) refl (is_within_side old.corners (stretch_of s)) refl (cuts_of s old.pieces) refl e
    where
      go : (a : Bool) → is_on_sheet old.corners (stretch_of s) ≡ a → (b : Bool) → is_within_side old.corners (stretch_of s) ≡ b → (r : Result (List Point) ℕ) → cuts_of s old.pieces ≡ r
          → cond (not a) (Err OutsideSheet) (cond b (Err OnBorder) (crease_cut old kind s r)) ≡ Ok new → IsKept old new
      go false a b f r g h = err_is_ok new OutsideSheet h
      go true a true f r g h = err_is_ok new OnBorder h
      go true a false f (Err n) g h = err_is_ok new _ h
      go true a false f (Ok cuts) g h =
          fitted (with_crease old kind s cuts) (λ size. record { rules = IsPattern-with_crease old kind s cuts rules sheet is_kind a f g size; corners = refl }) h

  line_kept : (s : Segment) → line_added old s ≡ Ok new → IsKept old new
  line_kept s e = go (is_on_sheet old.corners (stretch_of s)) refl e
    where
      go : (a : Bool) → is_on_sheet old.corners (stretch_of s) ≡ a → cond (not a) (Err OutsideSheet) (if_it_fits (with_line old s)) ≡ Ok new → IsKept old new
      go false a h = err_is_ok new OutsideSheet h
      go true a h = fitted (with_line old s) (λ size. record { rules = IsPattern-with_line old s rules a size; corners = refl }) h

  edge_kept : (s : Segment) → edge_added old s ≡ Ok new → IsKept old new
  edge_kept s e = go (is_within_side old.corners (stretch_of s)) e
    where
      go : (b : Bool) → cond b (Ok old) (Err EdgeOffBorder) ≡ Ok new → IsKept old new
      go true h = subst (IsKept old) (ok_is old new h) (record { rules = rules; corners = refl })
      go false h = err_is_ok new EdgeOffBorder h

  segment_kept : (kind : Kind) (from to : Point) (o : Option Segment) → added_between old kind from to o ≡ Ok new → IsKept old new
  segment_kept kind from to None e = err_is_ok new (segment_refusal from to) e
  segment_kept Edge from to (Some s) e = edge_kept s e
  segment_kept Mountain from to (Some s) e = crease_kept Mountain s refl e
  segment_kept Valley from to (Some s) e = crease_kept Valley s refl e
  segment_kept Aux from to (Some s) e = line_kept s e
  segment_kept Unassigned from to (Some s) e = crease_kept Unassigned s refl e

  add_kept : (kind : Kind) (from to : Point) → add_of old kind from to ≡ Ok new → IsKept old new
  unfolding add_of
  add_kept kind from to e = segment_kept kind from to (segment_of from to) e

-- ---- all lines

abbrev after : PatternView → LoadLine → Result PatternView StoreRefusal
after old line = add_of old line.kind line.from line.to

loaded_from : (lines : List LoadLine) (old new : PatternView) → IsPattern old → is_sheet old.corners ≡ true → load_from lines old ≡ Ok new → IsLoaded old lines new
loaded_from [] old new rules sheet e = sym (ok_is old new e)
loaded_from (line ∷ lines) old new rules sheet e =
    go (after old line) refl e (λ next kept h. loaded_from lines next new kept.rules (ap is_sheet kept.corners ∙ sheet) h)
  where
    go : (r : Result PatternView StoreRefusal) → after old line ≡ r → after_line line.number r (load_from lines) ≡ Ok new
        → ((next : PatternView) → IsKept old next → load_from lines next ≡ Ok new → IsLoaded next lines new) → IsLoaded old (line ∷ lines) new
    go (Err refusal) f h rest = err_is_ok new (refused_line line.number refusal) h
    go (Ok next) f h rest = (next, accepted_is_added old line.kind line.from line.to next rules f, rest next (add_kept old rules sheet next line.kind line.from line.to f) h)

refused_from : (lines : List LoadLine) (old : PatternView) (number : ℕ) (refusal : StoreRefusal) → IsPattern old → is_sheet old.corners ≡ true → load_from lines old ≡ Err (refused_line number refusal) → IsFirstRefused old lines number refusal
refused_from [] old number refusal rules sheet e = ok_is_err old (refused_line number refusal) e
refused_from (line ∷ lines) old number refusal rules sheet e =
    go (after old line) refl e (λ next kept h. refused_from lines next number refusal kept.rules (ap is_sheet kept.corners ∙ sheet) h)
  where
    go : (r : Result PatternView StoreRefusal) → after old line ≡ r → after_line line.number r (load_from lines) ≡ Err (refused_line number refusal)
        → ((next : PatternView) → IsKept old next → load_from lines next ≡ Err (refused_line number refusal) → IsFirstRefused next lines number refusal) → IsFirstRefused old (line ∷ lines) number refusal
    go (Err r) f h rest =
        let same = err_is (refused_line line.number r) (refused_line number refusal) h in
        record {
          earlier = [];
          line = line;
          later = lines;
          split = refl;
          number_is = sym (ap (λ (w : LoadRefusal). w.number) same);
          before = old;
          loaded = refl;
          refused = subst (IsRefusedFor old line.kind line.from line.to) (ap (λ (w : LoadRefusal). w.refusal) same) ((refused_for old line.kind line.from line.to rules r).0 f);
        }
    go (Ok next) f h rest =
        let w = rest next (add_kept old rules sheet next line.kind line.from line.to f) h in
        record {
          earlier = line ∷ w.earlier;
          line = w.line;
          later = w.later;
          split = ap (λ (ls : List LoadLine). line ∷ ls) w.split;
          number_is = w.number_is;
          before = w.before;
          loaded = (next, accepted_is_added old line.kind line.from line.to next rules f, w.loaded);
          refused = w.refused;
        }

empty_rules : (corners : List Point) → IsPattern (empty_on corners)
empty_rules corners = record { creases = tt; meetings = tt; lines = tt; size = omega arith; order = (refl, refl) }

pub loaded_where : (pattern : PatternView) (lines : List LoadLine) (result : Result PatternView LoadStoreFault) → is_sheet pattern.corners ≡ true → IsLoadAnswer result (load_of pattern lines)
    → IfOk result (λ new. IsLoaded (empty_on pattern.corners) lines new)
unfolding load_of
loaded_where pattern lines (Ok new) sheet is = loaded_from lines (empty_on pattern.corners) new (empty_rules pattern.corners) sheet is
loaded_where pattern lines (Err e) sheet is = tt

pub first_is_refused : (pattern : PatternView) (lines : List LoadLine) (result : Result PatternView LoadStoreFault) → is_sheet pattern.corners ≡ true → IsLoadAnswer result (load_of pattern lines)
    → IfErr result (λ e. IfSome (refusal_of e.fault) (λ refusal. IsFirstRefused (empty_on pattern.corners) lines e.number refusal))
unfolding load_of
first_is_refused pattern lines (Ok p) sheet is = tt
first_is_refused pattern lines (Err e) sheet is = go (refusal_of e.fault) is
  where
    go : (o : Option StoreRefusal) → IsLoadRefusal e.number o (load_from lines (empty_on pattern.corners)) → IfSome o (λ refusal. IsFirstRefused (empty_on pattern.corners) lines e.number refusal)
    go None h = tt
    go (Some refusal) h = refused_from lines (empty_on pattern.corners) e.number refusal (empty_rules pattern.corners) sheet h
