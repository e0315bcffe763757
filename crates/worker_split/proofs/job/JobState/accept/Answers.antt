use Rattle.std.proofs.Common.{◌≡◌, ◌∙◌, ◌+◌, ◌-◌, sym, ap, subst, slice_set, slice_index_or}
use Rattle.worker_split.specs.declared.piece.Piece.{Piece}
use Rattle.worker_split.specs.Job.{JobView, Matches, posted_to, answered_piece}
use Rattle.worker_split.specs.Invariant.{IsJob}
use Rattle.worker_split.proofs.Jobs.{IsJob-answered, at_place, match_of}
use Rattle.worker_split.specs.Waiting.{waiting}
use Rattle.worker_split.proofs.Needs.{posted_waits}
use Rattle.worker_split.proofs.job.JobState.accept.Goals as goal

-- the outcome matches
matches : (c : goal.After-drop-outcome) → Matches c.args.self.now c.args.outcome
matches c = c.matches.ensures.0 c.if-not-matches.false

-- the piece that was changed is the one that the outcome names
new_piece : (c : goal.After-drop-outcome) → c.accept.new.self ≡ answered_piece (match_of c.args.self.now c.args.outcome (matches c)).0 c.args.outcome.budget c.args.outcome.end
new_piece c =
    let j = c.args.self.now in
    let x = c.args.outcome in
    let found = match_of j x (matches c) in
    let q = c.index_mut-piece.result.now in
    let own : q ≡ found.0 =
    c.index_mut-piece.ensures.value
    ∙ ap (λ (v : JobView). slice_index_or v.pieces (x.piece - 1) q) c.self.view_is
    ∙ (at_place j x.piece found.0 found.1).is q in
    c.accept.ensures ∙ ap (λ p. answered_piece p x.budget x.end) own

pub invariant_of-self : goal.invariant_of-self
invariant_of-self c =
    let j = c.args.self.now in
    let x = c.args.outcome in
    let found = match_of j x (matches c) in
    let job = subst (λ (v : JobView). IsJob v.rules v.pieces v.ask) c.self.view_is c.self.invariant in
    let whole = IsJob-answered j x found.0 job found.1 found.2 (c.requires found.0 found.1 found.2) in
    subst (λ (v : JobView). IsJob v.rules (slice_set v.pieces (x.piece - 1) c.accept.new.self) v.ask) (sym c.self.view_is)
    (subst (λ p. IsJob j.rules (slice_set j.pieces (x.piece - 1) p) j.ask) (sym (new_piece c)) whole)

pub returns : goal.returns
returns c =
    let j = c.args.self.now in
    let x = c.args.outcome in
    let found = match_of j x (matches c) in
    let with : JobView → Piece → JobView = λ v p. record v { pieces = slice_set v.pieces (x.piece - 1) p } in
    let state = ap (λ v. with v c.accept.new.self) c.self.view_is
    ∙ ap (with j) (new_piece c)
    ∙ ap (posted_to j x) (sym found.1) in
    record {
      taken = (matches c, state);
      fewer = λ accepted. subst (λ v. waiting j ≡ waiting v + 1) (sym state) (posted_waits j x (matches c));
    }
