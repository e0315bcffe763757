use Rattle.std.proofs.Common.{◌≡◌, ◌<◌, ◌≤◌, ◌+◌, ◌++◌, ◌∷◌, [], length, true, false, refl, sym, ◌∙◌, ap, subst, arith, length-append}
use Rattle.search_cursor.specs.Place.{SearchPlace, search_place}
use Rattle.search_cursor.specs.PlaceLaws.{begins_with-same}
use Rattle.order_search.specs.Lists.{remaining}
use Rattle.order_search.specs.Search.{right_after}
use Rattle.order_search.specs.Invariant.{IsConsistentWithin}
use Rattle.order_search.specs.Walking.{before, descended, climbed}
use Rattle.order_search.proofs.Walks.{Walked, walked-none, walked-climbed, walked-descended, found_first, found_counts_none, nothing_left}
use Rattle.order_search.proofs.Within.{consistent-length, place_at, last_of, within_descended, within_climbed}
use Rattle.order_search.proofs.Measure.{place_steps, fewer_descended, fewer_climbed}
use Rattle.order_search.proofs.walking.walk.Goals as goal

pub loop-position-init : goal.loop-position-init
loop-position-init c = record {
  search = c.requires;
  walked = walked-none c.args.rules.now c.args.prefix.now (search_place c.args.position.now);
  within = omega arith;
}

pub returns-then-length-prefix-clause-walk : goal.returns-then-length-prefix-clause-walk
returns-then-length-prefix-clause-walk c =
    let r = c.args.rules.now in
    let prefix = c.args.prefix.now in
    let p = c.loop-position.position in
    let invariant = c.loop-position.invariant in
    let own : p.signs.list ≡ prefix =
    begins_with-same prefix p.signs.list invariant.search.within.begins
    (omega (arith, ap length c.as_slice-length.ensures)) in
    let here : search_place p ≡ right_after prefix = place_at p true c.if-position.true ∙ ap right_after own in
    let none : remaining r prefix (search_place p) ≡ [] = ap (remaining r prefix) here ∙ nothing_left r prefix in
    (here, sym invariant.walked.same ∙ none, none, omega (arith, invariant.walked.count))

pub returns-then-length-pairs-clause-walk : goal.returns-then-length-pairs-clause-walk
returns-then-length-pairs-clause-walk c =
    let r = c.args.rules.now in
    let prefix = c.args.prefix.now in
    let p = c.loop-position.position in
    let s = p.signs.list in
    let invariant = c.loop-position.invariant in
    let within = invariant.search.within in
    let whole : length s ≡ r.pairs = omega (arith, ap length c.as_slice-length.ensures) in
    let here : search_place p ≡ before s = place_at p false c.if-position.false in
    let walked = subst (λ q. Walked r prefix (search_place c.args.position.now) q c.loop-position.units) here
    invariant.walked in (
      refl,
      sym walked.same ∙ found_first r prefix s within.begins within.consistent whole,
      omega (
        arith,
        found_counts_none r prefix
            (search_place c.args.position.now) s c.loop-position.units whole walked,
      ),
    )

pub loop-position-smaller : goal.loop-position-smaller
loop-position-smaller c =
    let r = c.args.rules.now in
    let p = c.loop-position.position in
    let s = p.signs.list in
    let shorter : length s < r.pairs =
    omega (
      arith,
      consistent-length r s c.loop-position.invariant.search.within.consistent,
      ap length c.as_slice-length.ensures,
    ) in
    let here : search_place p ≡ before s = place_at p false c.if-position.false in
    subst (λ q. place_steps q r.pairs < place_steps (search_place p) r.pairs) (sym c.descend.ensures.place)
    (subst (λ q. place_steps (descended r s) r.pairs < place_steps q r.pairs) (sym here)
    (fewer_descended r s shorter))

pub loop-position-preserved : goal.loop-position-preserved
loop-position-preserved c =
    let r = c.args.rules.now in
    let prefix = c.args.prefix.now in
    let p = c.loop-position.position in
    let s = p.signs.list in
    let a = search_place c.args.position.now in
    let invariant = c.loop-position.invariant in
    let within = invariant.search.within in
    let shorter : length s < r.pairs = omega
    (arith, consistent-length r s within.consistent, ap length c.as_slice-length.ensures) in
    let here : search_place p ≡ before s = place_at p false c.if-position.false in
    let walked = walked-descended r prefix a s c.loop-position.units within.begins within.consistent shorter
    (subst (λ q. Walked r prefix a q c.loop-position.units) here invariant.walked) in
    record {
      search = record {
        within = subst (λ (q : SearchPlace). IsConsistentWithin r prefix q.signs) (sym c.descend.ensures.place)
            (within_descended r prefix s within);
        room = omega (arith, invariant.search.room, c.descend.ensures.room);
      };
      walked = subst (λ q. Walked r prefix a q (c.loop-position.units + 1))
          (sym c.descend.ensures.place) walked;
      within = omega (arith, invariant.within);
    }

pub loop-position-smaller-then-position : goal.loop-position-smaller-then-position
loop-position-smaller-then-position c =
    let r = c.args.rules.now in
    let p = c.loop-position.position in
    let s = p.signs.list in
    let last = last_of s (omega (arith, ap length c.as_slice-length.ensures)) in
    let front = last.0 in
    let sign = last.1 in
    let below : length front < r.pairs =
    omega (
      arith,
      consistent-length r s c.loop-position.invariant.search.within.consistent,
      ap length last.2,
      length-append front (sign ∷ []),
    ) in
    let here : search_place p ≡ right_after (front ++ sign ∷ []) = place_at p true c.if-position.true
    ∙ ap right_after last.2 in
    subst (λ q. place_steps q r.pairs < place_steps (search_place p) r.pairs)
    (sym (c.climb.ensures.place front sign last.2))
    (subst (λ q. place_steps (climbed r front sign) r.pairs < place_steps q r.pairs) (sym here)
    (fewer_climbed r front sign below))

pub loop-position-preserved-then-position : goal.loop-position-preserved-then-position
loop-position-preserved-then-position c =
    let r = c.args.rules.now in
    let prefix = c.args.prefix.now in
    let p = c.loop-position.position in
    let s = p.signs.list in
    let a = search_place c.args.position.now in
    let invariant = c.loop-position.invariant in
    let last = last_of s (omega (arith, ap length c.as_slice-length.ensures)) in
    let front = last.0 in
    let sign = last.1 in
    let here : search_place p ≡ right_after (front ++ sign ∷ []) = place_at p true c.if-position.true
    ∙ ap right_after last.2 in
    let place = c.climb.ensures.place front sign last.2 in
    let within = subst (IsConsistentWithin r prefix) last.2 invariant.search.within in
    let below : length prefix ≤ length front =
    omega (arith, ap length c.as_slice-length.ensures, ap length last.2, length-append front (sign ∷ [])) in
    let walked = walked-climbed r prefix a front sign c.loop-position.units
    (subst (λ q. Walked r prefix a q c.loop-position.units) here invariant.walked) in
    record {
      search = record {
        within = subst (λ (q : SearchPlace). IsConsistentWithin r prefix q.signs) (sym place)
            (within_climbed r prefix front sign within below);
        room = omega (arith, invariant.search.room, c.climb.ensures.room);
      };
      walked = subst (λ q. Walked r prefix a q c.loop-position.units) (sym place) walked;
      within = invariant.within;
    }
