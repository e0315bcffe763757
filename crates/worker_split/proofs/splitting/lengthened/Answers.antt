use Rattle.std.proofs.Common.{◌≡◌, ◌∙◌, ◌<◌, ◌++◌, [], ◌∷◌, length, cond, not, nat_le, sym, ap, subst, arith}
use Rattle.std.specs.List.{list_any}
use Rattle.std.proofs.lemmas.Bool.{and_parts, leb-true}
use Rattle.sign_rules.specs.declared.sign.Sign.TheVariants.{Over, Under}
use Rattle.sign_rules.specs.Signs.{OrderView}
use Rattle.sign_rules.specs.Rules.{is_broken, is_consistent}
use Rattle.worker_split.proofs.Splits.{IsOnly, only_empty, only_next, piece_whole, piece_same}
use Rattle.worker_split.proofs.splitting.lengthened.Goals as goal
use Rattle.worker_split.proofs.splitting.lengthened.Goals.{then-over, else-over}

pub loop-order-init : goal.loop-order-init
loop-order-init c = record {
  only = subst (IsOnly c.args.rules.now) (sym c.requires.empty) (only_empty c.args.rules.now);
  room = c.requires.room;
}

pub returns-then-over-under : goal.returns-then-over-under
returns-then-over-under c =
    let r = c.args.rules.now in
    let s = c.loop-order.order.list in
    let shorter : length s < r.pairs = omega (arith, ap length c.as_slice.ensures) in
    let under : is_consistent r (s ++ Under ∷ []) ≡ c.fits-under.result =
    ap (λ l. is_consistent r (l ++ Under ∷ [])) (sym c.fits-over.ensures.list) ∙ sym c.fits-under.ensures.fits in
    let back : s ≡ c.fits-under.new.order.list = sym (c.fits-under.ensures.list ∙ c.fits-over.ensures.list) in
    piece_same r s c.fits-over.result c.fits-under.result c.loop-order.invariant.only shorter (sym c.fits-over.ensures.fits) under c.if-over-under.true
    ∙ ap (λ l. cond c.fits-over.result (l ∷ []) []) back

pub loop-order-preserved : goal.loop-order-preserved
loop-order-preserved c =
    let r = c.args.rules.now in
    let s = c.loop-order.order.list in
    let under : is_consistent r (s ++ Under ∷ []) ≡ c.fits-under.result =
    ap (λ l. is_consistent r (l ++ Under ∷ [])) (sym c.fits-over.ensures.list) ∙ sym c.fits-under.ensures.fits in
    let sign : c.if-over.push ≡ cond c.fits-over.result Over Under =
    elim c.if-over.branch [
      | then-over w ↦ w.push-is ∙ sym (ap (λ b. cond b Over Under) w.if-over.true)
      | else-over w ↦ w.push-is ∙ sym (ap (λ b. cond b Over Under) w.if-over.false)
    ] in
    let next = only_next r s c.fits-over.result c.fits-under.result c.loop-order.invariant.only (sym c.fits-over.ensures.fits) under c.if-over-under.false in
    let pushed : c.push.new.self.list ≡ s ++ cond c.fits-over.result Over Under ∷ [] =
    ap (λ (v : OrderView). v.list) c.push.ensures
    ∙ ap (λ l. l ++ c.if-over.push ∷ []) (c.fits-under.ensures.list ∙ c.fits-over.ensures.list)
    ∙ ap (λ x. s ++ x ∷ []) sign in
    record {
      only = subst (IsOnly r) (sym pushed) next;
      room = omega (arith, c.loop-order.invariant.room, c.fits-over.ensures.room, c.fits-under.ensures.room, ap (λ (v : OrderView). v.room) c.push.ensures);
    }

pub returns : goal.returns
returns c =
    let r = c.args.rules.now in
    let s = c.loop-order.order.list in
    let only = c.loop-order.invariant.only in
    let parts = and_parts (nat_le (length s) r.pairs) (not (list_any (is_broken s) r.rules)) only.consistent in
    let whole : length s ≡ r.pairs = omega (arith, leb-true (length s) r.pairs parts.0, ap length c.as_slice.ensures) in
    piece_whole r s only whole
