-- A line is refused exactly for the causes of its refusals.
use Rattle.std.proofs.Common.{◌≡◌, ◌≢◌, ◌↔◌, ℕ, ◌<◌, Bool, true, false, cond, not, ◌&&◌, nat_le, inl, inr, List, refl, sym, ap, subst, ◌∙◌, arith}
use Rattle.std.specs.Prelude.{Option, None, Some, Ok, Err, IfOk, IsOk, IsErrOf}
use Rattle.std.specs.Ordering.{is_lt}
use Rattle.std.specs.declared.result.Result.{Result}
use Rattle.std.proofs.lemmas.Bool.{and_parts, and_from, false≢true, false_from_ne_true, not_from_false, not-true}
use Rattle.std.proofs.Common.{leb-true, leb-false}
use Rattle.surd_number.specs.declared.Sgn.{Sgn}
use Rattle.surd_number.specs.declared.Sgn.TheVariants.{Neg, Zero, Pos}
use Rattle.surd_number.specs.Number.{opposite_sign}
use Rattle.plane_geometry.specs.declared.Point.{Point}
use Rattle.plane_geometry.specs.declared.Segment.{Segment}
use Rattle.plane_geometry.specs.declared.SegmentFault.{SegmentFault}
use Rattle.plane_geometry.specs.declared.SegmentFault.TheVariants as none_between
use Rattle.plane_geometry.specs.Position.{position_of, compare_positions, is_same_position}
use Rattle.plane_geometry.specs.Direction.{is_positive, is_along, opposite_number}
use Rattle.plane_geometry.specs.DirectionLaws.{along_unique, along_back}
use Rattle.plane_geometry.specs.Ends.{HasNoDirection, HaveBadDirection}
use Rattle.plane_geometry.specs.SegmentOf.{segment_from, segment_of}
use Rattle.plane_geometry.specs.SegmentView.{stretch_of}
use Rattle.plane_geometry.specs.SegmentLaws.{point_is, segment_of-ends, no_direction_back}
use Rattle.plane_geometry.specs.SideLaws.{order_of, order_self, order_turned}
use Rattle.plane_geometry.specs.StretchLaws.{before_is}
use Rattle.crease_model.specs.declared.Kind.{Kind}
use Rattle.crease_model.specs.declared.Kind.TheVariants.{Edge, Mountain, Valley, Aux, Unassigned}
use Rattle.crease_model.specs.PartLaws.{in_order, turned, segment_ends}
use Rattle.crease_model.specs.Sheet.{is_within_side}
use Rattle.crease_model.specs.View.{PatternView}
use Rattle.crease_model.specs.Rules.{IsPattern, is_crease, is_crease_kind, is_on_sheet, most_pieces, size_of}
use Rattle.line_split.specs.Cuts.{cuts_of, IsFirstOutOfRange}
use Rattle.line_split.specs.FaultLaws.{fault_is_first, first_is_fault}
use Rattle.crease_store.specs.declared.faults.StoreFault.{StoreFault}
use Rattle.crease_store.specs.declared.faults.StoreFault.TheVariants as fault
use Rattle.crease_store.specs.declared.faults.StoreRefusal.{StoreRefusal}
use Rattle.crease_store.specs.declared.faults.StoreRefusal.TheVariants.{ZeroLength, BadDirection, EdgeOffBorder, OutsideSheet, OnBorder, Crossing, TooManyPieces, NoSuchPiece}
use Rattle.crease_store.specs.Faults.{segment_fault}
use Rattle.crease_store.specs.Answer.{refusal_of, IsRefusal, IsAnswer, HasMemory}
use Rattle.crease_store.specs.Added.{IsCreaseAdded, IsAdded, IsAddedBetween}
use Rattle.crease_store.specs.Adding.{with_crease, with_line, if_it_fits, crease_cut, crease_added, line_added, edge_added, segment_added, segment_refusal, added_between, add_of}
use Rattle.crease_store.specs.AddRefusals.{IsStorable, GivesTooMany, IsRefusedFor}
use Rattle.crease_store.proofs.AddLaws.{crease_is_added, line_is_added, accepted_is_added, added_is_one}
use Rattle.crease_store.proofs.Chains.{same_point, point_self}

-- ---- an answer that is refused

module _ {T E : Type 0} where
  pub err_is : (x y : E) → ◌≡◌ {A = Result T E} (Err x) (Err y) → x ≡ y
  err_is x y e = cc

  pub ok_is_err : {F : Type 0} (x : T) (y : E) → ◌≡◌ {A = Result T E} (Ok x) (Err y) → F
  ok_is_err x y e = absurd (cc)

some_is : {X : Type 0} (x y : X) → Some x ≡ Some y → x ≡ y
some_is x y e = cc

none_is_some : {X F : Type 0} (x : X) → None ≡ Some x → F
none_is_some x e = absurd (cc)

-- the fault that tells a refusal
abbrev pub fault_of : StoreRefusal → StoreFault
fault_of ZeroLength = fault.ZeroLength
fault_of BadDirection = fault.BadDirection
fault_of EdgeOffBorder = fault.EdgeOffBorder
fault_of OutsideSheet = fault.OutsideSheet
fault_of OnBorder = fault.OnBorder
fault_of (Crossing n) = fault.Crossing n
fault_of (TooManyPieces n) = fault.TooManyPieces n
fault_of NoSuchPiece = fault.NoSuchPiece

told_by : (e : StoreFault) (r : StoreRefusal) → refusal_of e ≡ Some r → e ≡ fault_of r
told_by fault.ZeroLength r h = ap fault_of (some_is ZeroLength r h)
told_by fault.BadDirection r h = ap fault_of (some_is BadDirection r h)
told_by fault.EdgeOffBorder r h = ap fault_of (some_is EdgeOffBorder r h)
told_by fault.OutsideSheet r h = ap fault_of (some_is OutsideSheet r h)
told_by fault.OnBorder r h = ap fault_of (some_is OnBorder r h)
told_by (fault.Crossing n) r h = ap fault_of (some_is (Crossing n) r h)
told_by (fault.TooManyPieces n) r h = ap fault_of (some_is (TooManyPieces n) r h)
told_by fault.NoSuchPiece r h = ap fault_of (some_is NoSuchPiece r h)
told_by fault.Memory r h = none_is_some r h

some_is_none : {X F : Type 0} (x : X) → Some x ≡ None → F
some_is_none x e = absurd (cc)

no_refusal : (e : StoreFault) → refusal_of e ≡ None → e ≡ fault.Memory
no_refusal fault.ZeroLength h = some_is_none ZeroLength h
no_refusal fault.BadDirection h = some_is_none BadDirection h
no_refusal fault.EdgeOffBorder h = some_is_none EdgeOffBorder h
no_refusal fault.OutsideSheet h = some_is_none OutsideSheet h
no_refusal fault.OnBorder h = some_is_none OnBorder h
no_refusal (fault.Crossing n) h = some_is_none (Crossing n) h
no_refusal (fault.TooManyPieces n) h = some_is_none (TooManyPieces n) h
no_refusal fault.NoSuchPiece h = some_is_none NoSuchPiece h
no_refusal fault.Memory h = refl

tells : (r : StoreRefusal) → refusal_of (fault_of r) ≡ Some r
tells ZeroLength = refl
tells BadDirection = refl
tells EdgeOffBorder = refl
tells OutsideSheet = refl
tells OnBorder = refl
tells (Crossing n) = refl
tells (TooManyPieces n) = refl
tells NoSuchPiece = refl

-- a result tells a refusal exactly where the definition has it and memory did not run out
pub refused_where : (answer : Result PatternView StoreRefusal) (result : Result PatternView StoreFault) (r : StoreRefusal) (Cause : Type 0)
    → IsAnswer result answer → (answer ≡ Err r) ↔ Cause → IsErrOf result (fault_of r) ↔ (HasMemory result × Cause)
refused_where answer (Ok p) r Cause is cause = (
  (λ e. ok_is_err p (fault_of r) e),
  λ w. ok_is_err p r (sym is ∙ cause.1 w.1),
)
refused_where answer (Err e) r Cause is cause = (to, from)
  where
    answered : (o : Option StoreRefusal) → refusal_of e ≡ o → IsRefusal o answer → o ≡ Some r → answer ≡ Err r
    answered None f h g = none_is_some r g
    answered (Some q) f h g = h ∙ ap Err (some_is q r g)

    to : IsErrOf {T = PatternView} (Err e) (fault_of r) → HasMemory (Err e) × Cause
    to same =
        let told : refusal_of e ≡ Some r = ap refusal_of (err_is e (fault_of r) same) ∙ tells r in (
          (λ none. none_is_some r (sym (ap refusal_of (err_is e fault.Memory none)) ∙ told)),
          cause.0 (answered (refusal_of e) refl is told),
        )

    refused : (o : Option StoreRefusal) → refusal_of e ≡ o → IsRefusal o answer → answer ≡ Err r → HasMemory (Err e) → e ≡ fault_of r
    refused None f h g memory = absurd (memory (ap Err (no_refusal e f)))
    refused (Some q) f h g memory = told_by e r (f ∙ ap Some (err_is q r (sym h ∙ g)))

    from : HasMemory (Err e) × Cause → IsErrOf {T = PatternView} (Err e) (fault_of r)
    from w = ap Err (refused (refusal_of e) refl is (cause.1 w.1) w.0)

-- ---- segments between points

-- there is a segment between points where one is in a direction from the other
pub between_points : (p q : Point) (n : ℕ) → n < 16 → is_along n (position_of p) (position_of q) ≡ true → (s : Segment) × (segment_of p q ≡ Some s)
between_points p q n few along = go (is_lt (compare_positions (position_of p) (position_of q))) refl (order_of (position_of p) (position_of q)) refl
  where
    go : (b : Bool) → is_lt (compare_positions (position_of p) (position_of q)) ≡ b → (t : Sgn) → order_of (position_of p) (position_of q) ≡ t → (s : Segment) × (segment_of p q ≡ Some s)
    go true e t f =
        let s : Segment = record { from = p; to = q; dir = record { number = n; in_range = omega (arith, few) }; stretch = (e, along) } in
        (s, segment_of-ends s)
    go false e Pos f = let clash : true ≡ false = sym (ap is_positive f) ∙ sym (before_is (position_of p) (position_of q)) ∙ e in absurd (cc)
    go false e Zero f =
        let same = point_is p q f in
        let there = subst (λ (t : Point). is_along n (position_of p) (position_of t) ≡ true) (sym same) along in
        let back = along_back n (position_of p) (position_of p) few ∙ there in
        let number = along_unique (opposite_number n) n (position_of p) (position_of p) (omega arith) few back there in
        absurd (omega (arith, number, few))
    go false e Neg f =
        let less : is_lt (compare_positions (position_of q) (position_of p)) ≡ true = before_is (position_of q) (position_of p) ∙ ap is_positive (order_turned (position_of p) (position_of q) ∙ ap opposite_sign f) in
        let s : Segment = record { from = q; to = p; dir = record { number = opposite_number n; in_range = omega arith }; stretch = (less, along_back n (position_of p) (position_of q) few ∙ along) } in
        let turned : segment_of p q ≡ segment_from q p = ap (λ b. cond b (segment_from p q) (segment_from q p)) e in
        let back : segment_of q p ≡ segment_from q p = ap (λ b. cond b (segment_from q p) (segment_from p q)) less in
        (s, turned ∙ sym back ∙ segment_of-ends s)

no_segment_at : (p q : Point) → p ≡ q → segment_of p q ≡ None
no_segment_at p q same = go (segment_of p q) refl
  where
    ends_apart : (s : Segment) → s.from ≡ s.to → false ≡ true
    ends_apart s e =
        sym (before_is (position_of s.from) (position_of s.from) ∙ ap is_positive (order_self (position_of s.from)))
        ∙ ap (λ (v : Point). is_lt (compare_positions (position_of s.from) (position_of v))) e ∙ s.stretch.0

    go : (o : Option Segment) → segment_of p q ≡ o → o ≡ None
    go None e = refl
    go (Some s) e =
        elim (segment_ends p q s e) [
          | in_order f g ↦ absurd (false≢true (ends_apart s (f ∙ same ∙ sym g)))
          | turned f g ↦ absurd (false≢true (ends_apart s (f ∙ sym same ∙ sym g)))
        ]

along_from : (s : Segment) (p q : Point) → s.from ≡ p → s.to ≡ q → is_along s.dir.number (position_of p) (position_of q) ≡ true
along_from s p q f g =
    subst (λ (v : Point). is_along s.dir.number (position_of p) (position_of v) ≡ true) g
    (subst (λ (v : Point). is_along s.dir.number (position_of v) (position_of s.to) ≡ true) f s.stretch.1)

no_segment_off : (p q : Point) → HasNoDirection (position_of p) (position_of q) → segment_of p q ≡ None
no_segment_off p q none = go (segment_of p q) refl
  where
    go : (o : Option Segment) → segment_of p q ≡ o → o ≡ None
    go None e = refl
    go (Some s) e =
        let few : s.dir.number < 16 = omega (arith, s.dir.in_range) in
        elim (segment_ends p q s e) [
          | in_order f g ↦ absurd (false≢true (sym (none s.dir.number few) ∙ along_from s p q f g))
          | turned f g ↦ absurd (false≢true (sym (no_direction_back (position_of p) (position_of q) none s.dir.number few) ∙ along_from s q p f g))
        ]

off_directions : (p q : Point) → segment_of p q ≡ None → HasNoDirection (position_of p) (position_of q)
off_directions p q none n few =
    false_from_ne_true (is_along n (position_of p) (position_of q)) (λ along. let w = between_points p q n few along in none_is_some w.0 (sym none ∙ w.1))

-- ---- kinds

pub added_as_crease : (old : PatternView) (kind : Kind) (s : Segment) → is_crease_kind kind ≡ true → segment_added old kind s ≡ crease_added old kind s
added_as_crease old Mountain s e = refl
added_as_crease old Valley s e = refl
added_as_crease old Unassigned s e = refl
added_as_crease old Edge s e = absurd (false≢true e)
added_as_crease old Aux s e = absurd (false≢true e)

crease_in : (old : PatternView) (kind : Kind) (s : Segment) (new : PatternView) → is_crease_kind kind ≡ true → IsCreaseAdded old kind s new → IsAdded old kind s new
crease_in old Mountain s new e added = added
crease_in old Valley s new e added = added
crease_in old Unassigned s new e added = added
crease_in old Edge s new e added = absurd (false≢true e)
crease_in old Aux s new e added = absurd (false≢true e)

no_edge : (kind : Kind) → is_crease_kind kind ≡ true → kind ≢ Edge
no_edge kind e f = false≢true (sym (ap is_crease_kind f) ∙ e)

-- ---- what a refusal says

module _ (old : PatternView) (rules : IsPattern old) (from to : Point) where
  told : (kind : Kind) (r refusal : StoreRefusal) → ◌≡◌ {A = Result PatternView StoreRefusal} (Err r) (Err refusal) → IsRefusedFor old kind from to r → IsRefusedFor old kind from to refusal
  told kind r refusal e w = subst (IsRefusedFor old kind from to) (err_is r refusal e) w

  fit_refused : (kind : Kind) (s : Segment) (new : PatternView) (refusal : StoreRefusal) → segment_of from to ≡ Some s → IsStorable old kind s → IsAdded old kind s new → if_it_fits new ≡ Err refusal → IsRefusedFor old kind from to refusal
  fit_refused kind s new refusal e storable added h = go (nat_le (size_of new) most_pieces) refl h
    where
      go : (b : Bool) → nat_le (size_of new) most_pieces ≡ b → cond b (Ok new) (Err (TooManyPieces (size_of new))) ≡ Err refusal → IsRefusedFor old kind from to refusal
      go true f g = ok_is_err new refusal g
      go false f g =
          told kind (TooManyPieces (size_of new)) refusal g
          (record { segment = s; ends = e; storable = storable; new = new; added = added; size = refl; many = leb-false (size_of new) most_pieces f })

  crease_refused : (kind : Kind) (s : Segment) (refusal : StoreRefusal) → segment_of from to ≡ Some s → is_crease_kind kind ≡ true → crease_added old kind s ≡ Err refusal → IsRefusedFor old kind from to refusal
  crease_refused kind s refusal e is_kind h = go (is_on_sheet old.corners (stretch_of s)) refl (is_within_side old.corners (stretch_of s)) refl (cuts_of s old.pieces) refl h
    where
      is : is_on_sheet old.corners (stretch_of s) ≡ true → is_within_side old.corners (stretch_of s) ≡ false → is_crease old.corners (record { kind = kind; segment = s }) ≡ true
      is a b = and_from (is_crease_kind kind) _ is_kind (and_from (is_on_sheet old.corners (stretch_of s)) _ a (not_from_false _ b))

      go : (a : Bool) → is_on_sheet old.corners (stretch_of s) ≡ a → (b : Bool) → is_within_side old.corners (stretch_of s) ≡ b → (r : Result (List Point) ℕ) → cuts_of s old.pieces ≡ r
          → cond (not a) (Err OutsideSheet) (cond b (Err OnBorder) (crease_cut old kind s r)) ≡ Err refusal → IsRefusedFor old kind from to refusal
      go false a b f r g k = told kind OutsideSheet refusal k (no_edge kind is_kind, (s, e, a))
      go true a true f r g k = told kind OnBorder refusal k (is_kind, (s, e, (a, f)))
      go true a false f (Err n) g k = told kind (Crossing n) refusal k (s, e, (is a f, fault_is_first s old.pieces n g))
      go true a false f (Ok cuts) g k =
          fit_refused kind s (with_crease old kind s cuts) refusal e
          (inr (is a f, λ n first. ok_is_err cuts n (sym g ∙ first_is_fault s old.pieces n first)))
          (crease_in old kind s (with_crease old kind s cuts) is_kind (crease_is_added old kind s cuts rules g)) k

  line_is_no_edge : Aux ≡ Edge → ⊥
  line_is_no_edge f = cc

  line_refused : (s : Segment) (refusal : StoreRefusal) → segment_of from to ≡ Some s → line_added old s ≡ Err refusal → IsRefusedFor old Aux from to refusal
  line_refused s refusal e h = go (is_on_sheet old.corners (stretch_of s)) refl h
    where
      go : (a : Bool) → is_on_sheet old.corners (stretch_of s) ≡ a → cond (not a) (Err OutsideSheet) (if_it_fits (with_line old s)) ≡ Err refusal → IsRefusedFor old Aux from to refusal
      go false a k = told Aux OutsideSheet refusal k (line_is_no_edge, (s, e, a))
      go true a k = fit_refused Aux s (with_line old s) refusal e (inl (refl, a)) (line_is_added old s rules) k

  edge_refused : (s : Segment) (refusal : StoreRefusal) → segment_of from to ≡ Some s → edge_added old s ≡ Err refusal → IsRefusedFor old Edge from to refusal
  edge_refused s refusal e h = go (is_within_side old.corners (stretch_of s)) refl h
    where
      go : (b : Bool) → is_within_side old.corners (stretch_of s) ≡ b → cond b (Ok old) (Err EdgeOffBorder) ≡ Err refusal → IsRefusedFor old Edge from to refusal
      go true f k = ok_is_err old refusal k
      go false f k = told Edge EdgeOffBorder refusal k (refl, (s, e, f))

  points_refused : (kind : Kind) (refusal : StoreRefusal) → segment_of from to ≡ None → ◌≡◌ {A = Result PatternView StoreRefusal} (Err (segment_refusal from to)) (Err refusal) → IsRefusedFor old kind from to refusal
  points_refused kind refusal e h = go (is_same_position (position_of from) (position_of to)) refl h
    where
      go : (b : Bool) → is_same_position (position_of from) (position_of to) ≡ b → ◌≡◌ {A = Result PatternView StoreRefusal} (Err (cond b ZeroLength BadDirection)) (Err refusal) → IsRefusedFor old kind from to refusal
      go true f k = told kind ZeroLength refusal k (same_point from to f)
      go false f k = told kind BadDirection refusal k ((λ same. false≢true (sym f ∙ point_self from to same)), off_directions from to e)

  by_segment : (kind : Kind) (refusal : StoreRefusal) (o : Option Segment) → segment_of from to ≡ o → added_between old kind from to o ≡ Err refusal → IsRefusedFor old kind from to refusal
  by_segment kind refusal None e h = points_refused kind refusal e h
  by_segment Edge refusal (Some s) e h = edge_refused s refusal e h
  by_segment Mountain refusal (Some s) e h = crease_refused Mountain s refusal e refl h
  by_segment Valley refusal (Some s) e h = crease_refused Valley s refusal e refl h
  by_segment Aux refusal (Some s) e h = line_refused s refusal e h
  by_segment Unassigned refusal (Some s) e h = crease_refused Unassigned s refusal e refl h

  says : (kind : Kind) (refusal : StoreRefusal) → add_of old kind from to ≡ Err refusal → IsRefusedFor old kind from to refusal
  unfolding add_of
  says kind refusal h = by_segment kind refusal (segment_of from to) refl h

  -- ---- when it comes

  at_segment : (kind : Kind) (s : Segment) (refusal : StoreRefusal) → segment_of from to ≡ Some s → segment_added old kind s ≡ Err refusal → add_of old kind from to ≡ Err refusal
  unfolding add_of
  at_segment kind s refusal e h = ap (added_between old kind from to) e ∙ h

  at_none : (kind : Kind) (refusal : StoreRefusal) → segment_of from to ≡ None → segment_refusal from to ≡ refusal → add_of old kind from to ≡ Err refusal
  unfolding add_of
  at_none kind refusal e h = ap (added_between old kind from to) e ∙ ap Err h

  sheet_missed : (kind : Kind) (s : Segment) → kind ≢ Edge → is_on_sheet old.corners (stretch_of s) ≡ false → segment_added old kind s ≡ Err OutsideSheet
  sheet_missed Edge s differs a = absurd (differs refl)
  sheet_missed Mountain s differs a = ap (λ b. cond (not b) (Err OutsideSheet) (cond (is_within_side old.corners (stretch_of s)) (Err OnBorder) (crease_cut old Mountain s (cuts_of s old.pieces)))) a
  sheet_missed Valley s differs a = ap (λ b. cond (not b) (Err OutsideSheet) (cond (is_within_side old.corners (stretch_of s)) (Err OnBorder) (crease_cut old Valley s (cuts_of s old.pieces)))) a
  sheet_missed Aux s differs a = ap (λ b. cond (not b) (Err OutsideSheet) (if_it_fits (with_line old s))) a
  sheet_missed Unassigned s differs a = ap (λ b. cond (not b) (Err OutsideSheet) (cond (is_within_side old.corners (stretch_of s)) (Err OnBorder) (crease_cut old Unassigned s (cuts_of s old.pieces)))) a

  crease_on : (kind : Kind) (s : Segment) (b : Bool) → is_on_sheet old.corners (stretch_of s) ≡ true → is_within_side old.corners (stretch_of s) ≡ b
      → crease_added old kind s ≡ cond b (Err OnBorder) (crease_cut old kind s (cuts_of s old.pieces))
  crease_on kind s b a f =
      let cut = crease_cut old kind s (cuts_of s old.pieces) in
      ap (λ t. cond (not t) (Err OutsideSheet) (cond (is_within_side old.corners (stretch_of s)) (Err OnBorder) cut)) a ∙ ap (λ t. cond t (Err OnBorder) cut) f

  crease_is : (kind : Kind) (s : Segment) → is_crease old.corners (record { kind = kind; segment = s }) ≡ true → segment_added old kind s ≡ crease_cut old kind s (cuts_of s old.pieces)
  crease_is kind s e =
      let k = and_parts (is_crease_kind kind) (is_on_sheet old.corners (stretch_of s) && not (is_within_side old.corners (stretch_of s))) e in
      let l = and_parts (is_on_sheet old.corners (stretch_of s)) (not (is_within_side old.corners (stretch_of s))) k.1 in
      added_as_crease old kind s k.0 ∙ crease_on kind s false l.0 (not-true _ l.1)

  too_big : (new : PatternView) (n : ℕ) → n ≡ size_of new → most_pieces < n → if_it_fits new ≡ Err (TooManyPieces n)
  too_big new n size many =
      let big : nat_le (size_of new) most_pieces ≡ false = false_from_ne_true _ (λ e. absurd (omega (arith, leb-true (size_of new) most_pieces e, size, many))) in
      ap (λ b. cond b (Ok new) (Err (TooManyPieces (size_of new)))) big ∙ ap (λ m. Err (TooManyPieces m)) (sym size)

  line_too_many : (s : Segment) (new : PatternView) (n : ℕ) → is_on_sheet old.corners (stretch_of s) ≡ true → n ≡ size_of new → most_pieces < n → IsAdded old Aux s new → segment_added old Aux s ≡ Err (TooManyPieces n)
  line_too_many s new n a size many added =
      let same = added_is_one old Aux s new (with_line old s) added (line_is_added old s rules) in
      ap (λ b. cond (not b) (Err OutsideSheet) (if_it_fits (with_line old s))) a ∙ too_big (with_line old s) n (size ∙ ap size_of same) many

  crease_too_many : (kind : Kind) (s : Segment) (new : PatternView) (n : ℕ) → is_crease old.corners (record { kind = kind; segment = s }) ≡ true → ((m : ℕ) → ¬ IsFirstOutOfRange (stretch_of s) old.pieces m)
      → n ≡ size_of new → most_pieces < n → IsAdded old kind s new → segment_added old kind s ≡ Err (TooManyPieces n)
  crease_too_many kind s new n crease exact size many added = crease_is kind s crease ∙ go (cuts_of s old.pieces) refl
    where
      is_kind : is_crease_kind kind ≡ true
      is_kind = (and_parts (is_crease_kind kind) (is_on_sheet old.corners (stretch_of s) && not (is_within_side old.corners (stretch_of s))) crease).0

      go : (r : Result (List Point) ℕ) → cuts_of s old.pieces ≡ r → crease_cut old kind s r ≡ Err (TooManyPieces n)
      go (Err m) g = absurd (exact m (fault_is_first s old.pieces m g))
      go (Ok cuts) g =
          let here = crease_in old kind s (with_crease old kind s cuts) is_kind (crease_is_added old kind s cuts rules g) in
          too_big (with_crease old kind s cuts) n (size ∙ ap size_of (added_is_one old kind s new (with_crease old kind s cuts) added here)) many

  too_many : (kind : Kind) (n : ℕ) (w : GivesTooMany old kind from to n) → segment_added old kind w.segment ≡ Err (TooManyPieces n)
  too_many kind n w =
      elim w.storable [
        | inl k ↦
            subst (λ (t : Kind). IsAdded old t w.segment w.new → segment_added old t w.segment ≡ Err (TooManyPieces n)) (sym k.0)
            (line_too_many w.segment w.new n k.1 w.size w.many) w.added
        | inr k ↦ crease_too_many kind w.segment w.new n k.0 k.1 w.size w.many w.added
      ]

  comes : (kind : Kind) (refusal : StoreRefusal) → IsRefusedFor old kind from to refusal → add_of old kind from to ≡ Err refusal
  comes kind ZeroLength same = at_none kind ZeroLength (no_segment_at from to same) (ap (λ b. cond b ZeroLength BadDirection) (point_self from to same))
  comes kind BadDirection w =
      at_none kind BadDirection (no_segment_off from to w.1) (ap (λ b. cond b ZeroLength BadDirection) (false_from_ne_true _ (λ e. w.0 (same_point from to e))))
  comes kind EdgeOffBorder w =
      at_segment kind w.1.0 EdgeOffBorder w.1.1
      (subst (λ (t : Kind). segment_added old t w.1.0 ≡ Err EdgeOffBorder) (sym w.0) (ap (λ b. cond b (Ok old) (Err EdgeOffBorder)) w.1.2))
  comes kind OutsideSheet w = at_segment kind w.1.0 OutsideSheet w.1.1 (sheet_missed kind w.1.0 w.0 w.1.2)
  comes kind OnBorder w = at_segment kind w.1.0 OnBorder w.1.1 (added_as_crease old kind w.1.0 w.0 ∙ crease_on kind w.1.0 true w.1.2.0 w.1.2.1)
  comes kind (Crossing n) w =
      at_segment kind w.0 (Crossing n) w.1 (crease_is kind w.0 w.2.0 ∙ ap (crease_cut old kind w.0) (first_is_fault w.0 old.pieces n w.2.1))
  comes kind (TooManyPieces n) w = at_segment kind w.segment (TooManyPieces n) w.ends (too_many kind n w)
  comes kind NoSuchPiece w = absurd w

-- a line is refused so exactly where the cause holds
pub refused_for : (old : PatternView) (kind : Kind) (from to : Point) → IsPattern old → (refusal : StoreRefusal) → (add_of old kind from to ≡ Err refusal) ↔ IsRefusedFor old kind from to refusal
refused_for old kind from to rules refusal = (says old rules from to kind refusal, comes old rules from to kind refusal)

-- why there is no segment between two points is why the line between them is refused
pub no_segment_told : (old : PatternView) (kind : Kind) (from to : Point) → IsPattern old → (cause : SegmentFault)
    → (◌≡◌ {A = Result Segment SegmentFault} (Err cause) (Err none_between.ZeroLength) ↔ (from ≡ to))
    → (◌≡◌ {A = Result Segment SegmentFault} (Err cause) (Err none_between.BadDirection) ↔ HaveBadDirection from to)
    → IsAnswer (Err (segment_fault cause)) (add_of old kind from to)
no_segment_told old kind from to rules none_between.ZeroLength zero bad = comes old rules from to kind ZeroLength (zero.0 refl)
no_segment_told old kind from to rules none_between.BadDirection zero bad = comes old rules from to kind BadDirection (bad.0 refl)

module _ (old : PatternView) (kind : Kind) (from to : Point) (rules : IsPattern old) (result : Result PatternView StoreFault) (exact : IsAnswer result (add_of old kind from to)) where
  pub refused_as : (refusal : StoreRefusal) → IsErrOf result (fault_of refusal) ↔ (HasMemory result × IsRefusedFor old kind from to refusal)
  refused_as refusal = refused_where (add_of old kind from to) result refusal (IsRefusedFor old kind from to refusal) exact (refused_for old kind from to rules refusal)

pub added_where : (old : PatternView) (kind : Kind) (from to : Point) → IsPattern old → (result : Result PatternView StoreFault) → IsAnswer result (add_of old kind from to) → IfOk result (λ new. IsAddedBetween old kind from to new)
added_where old kind from to rules (Ok new) exact = accepted_is_added old kind from to new rules exact
added_where old kind from to rules (Err e) exact = tt

-- what has no cause to be refused is accepted
pub accepted_where : (old : PatternView) (kind : Kind) (from to : Point) → IsPattern old → (result : Result PatternView StoreFault) → IsAnswer result (add_of old kind from to)
    → ((refusal : StoreRefusal) → ¬ IsRefusedFor old kind from to refusal) → HasMemory result → IsOk result
accepted_where old kind from to rules (Ok new) exact none memory = refl
accepted_where old kind from to rules (Err e) exact none memory = go (refusal_of e) refl exact
  where
    go : (o : Option StoreRefusal) → refusal_of e ≡ o → IsRefusal o (add_of old kind from to) → IsOk {T = PatternView} (Err e)
    go None f h = absurd (memory (ap Err (no_refusal e f)))
    go (Some r) f h = absurd (none r ((refused_for old kind from to rules r).0 h))
