use Rattle.std.proofs.Common.{◌≡◌, ℕ, [], take, Some, refl, sym, ◌∙◌, subst, arith}
use Rattle.std.specs.Prelude.{unwrap_or}
use Rattle.std.proofs.lemmas.Option.{same_Some}
use Rattle.order_search.specs.Lists.{all_lists, shorter_lists, orders, open_lists, remaining, lists_between}
use Rattle.worker_split.specs.declared.outcome.Outcome.{Outcome}
use Rattle.worker_split.specs.declared.piece.Piece.{Piece}
use Rattle.worker_split.specs.Pieces.{consistent_lists, is_allowed, allowed_length, pieces_of}
use Rattle.worker_split.specs.Tasks.{IsRightOutcome}
use Rattle.worker_split.specs.Job.{JobView, opened_job, new_piece, piece_at, task_with}
use Rattle.job_enumeration.specs.Record.{job_after, IsRightPost}
use Rattle.job_enumeration.specs.Rows.{one_pair, stopped_first, found_over, found_under, done_last, worked_record}
use Rattle.job_enumeration.proofs.laws.worked_record_is_legal.Goals as goal

right_for : (j : JobView) (x : Outcome) (c : Piece) → piece_at j x.piece ≡ Some c
    → IsRightOutcome (task_with j x.piece c x.budget) x → IsRightPost j x
right_for j x c known right p e =
    subst (λ q. IsRightOutcome (task_with j x.piece q x.budget) x) (same_Some c p (sym known ∙ e)) right

abbrev job_at : ℕ → JobView
job_at n = job_after (opened_job 1 0 one_pair 1) (take n worked_record)

abbrev piece_of : ℕ → Piece
piece_of n = unwrap_or (piece_at (job_at n) 1) (new_piece [])

pub returns : goal.returns
unfolding pieces_of consistent_lists allowed_length is_allowed all_lists shorter_lists orders open_lists remaining lists_between
returns c = record {
  legal = (
    (refl, omega arith),
    (
      (refl, refl),
      (
        (
          record { job = refl; version = refl; unanswered = refl; from = refl },
          right_for (job_at 2) stopped_first (piece_of 2) refl (record {
            job = refl;
            version = refl;
            piece = refl;
            from = refl;
            budget = refl;
            end = (refl, omega arith, record { begins = refl; consistent = refl });
          }),
        ),
        (
          (λ names. let answered = names.unanswered in absurd (cc)),
          (
            (refl, refl),
            (
              (refl, omega arith),
              (
                (
                  record { job = refl; version = refl; unanswered = refl; from = refl },
                  right_for (job_at 6) found_over (piece_of 6) refl (record {
                    job = refl;
                    version = refl;
                    piece = refl;
                    from = refl;
                    budget = refl;
                    end = (refl, record { begins = refl; consistent = refl });
                  }),
                ),
                (
                  (refl, refl),
                  (
                    (refl, omega arith),
                    (
                      (
                        record { job = refl; version = refl; unanswered = refl; from = refl },
                        right_for (job_at 9) found_under (piece_of 9) refl (record {
                          job = refl;
                          version = refl;
                          piece = refl;
                          from = refl;
                          budget = refl;
                          end = (refl, record { begins = refl; consistent = refl });
                        }),
                      ),
                      (
                        (refl, refl),
                        (
                          (refl, omega arith),
                          (
                            (
                              record { job = refl; version = refl; unanswered = refl; from = refl },
                              right_for (job_at 12) done_last (piece_of 12) refl (record {
                                job = refl;
                                version = refl;
                                piece = refl;
                                from = refl;
                                budget = refl;
                                end = refl;
                              }),
                            ),
                            (
                              (refl, refl),
                              (
                                (refl, omega arith),
                                ((refl, refl), tt),
                              ),
                            ),
                          ),
                        ),
                      ),
                    ),
                  ),
                ),
              ),
            ),
          ),
        ),
      ),
    ),
  );
  shows = refl;
}
