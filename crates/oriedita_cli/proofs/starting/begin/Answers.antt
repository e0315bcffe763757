use Rattle.std.proofs.Common.{◌≡◌, ◌≤◌, ◌<◌, inl, inr, ⊎_elim, refl, sym, subst, ◌∙◌, arith}
use Rattle.oriedita_cli.proofs.Readings.{cut_is_read, cut_late, no_file_is_unread, nothing_is_read, sampled_not, script_is_run, unnamed}
use Rattle.oriedita_cli.proofs.starting.begin.Goals as goal

pub returns-in-Cut-clause-input : goal.returns-in-Cut-clause-input
returns-in-Cut-clause-input g c = λ status events may.
    let read = c.in-Cut.ensures.reading in
    record {
      bytes = read.0;
      lost = read.1;
      run = script_is_run _ _ _ _ _ _ _ _ _ _ read.2.0
          (inr (cut_is_read _ _ _ may.0 status events events read.0 _ _ read.2.1 may.2.done may.2.status_is refl may.1));
      to_its_end = λ none low. absurd (cut_late may.0 (subst (λ n. n < 2) may.1 low));
      unread = λ some. absurd (sampled_not _ read.2.0 some);
      unopened = ⊎_elim (λ some. c.in-Cut.ensures.unopened (inl some))
          (λ none. c.in-Cut.ensures.unopened (inr (unnamed c.args.options.now.cp none)));
    }

pub returns-in-NoFile-clause-input : goal.returns-in-NoFile-clause-input
returns-in-NoFile-clause-input g c = λ status events may.
    let read = c.in-NoFile.ensures.reading in
    let ended = c.ended_unread.ensures in
    let late : 3 ≤ status = omega (arith, may.0, ended.late) in
    record {
      bytes = read.0;
      lost = read.1;
      run = script_is_run _ _ _ _ _ _ _ _ _ _ read.2.0
          (inl (no_file_is_unread _ _ c.in-NoFile.fault status events read.0 _ _ read.2.1 (may.1 ∙ ended.events) late
          (λ three. ended.failed (sym may.0 ∙ three)) (λ five. ended.long.0 (sym may.0 ∙ five))));
      to_its_end = λ none low. absurd (omega (arith, low, late));
      unread = λ some. absurd (sampled_not _ read.2.0 some);
      unopened = ⊎_elim (λ some. c.in-NoFile.ensures.unopened (inl some))
          (λ none. c.in-NoFile.ensures.unopened (inr (unnamed c.args.options.now.cp none)));
    }

pub returns-in-Nothing-clause-input : goal.returns-in-Nothing-clause-input
returns-in-Nothing-clause-input g c = λ status events may.
    let read = c.in-Nothing.ensures.reading in
    let told = c.in-Nothing.status in
    let is : status ≡ told = may.0 ∙ c.ended_without.ensures.status in
    record {
      bytes = read.0;
      lost = read.1;
      run = script_is_run _ _ _ _ _ _ _ _ _ _ read.2.0
          (inr (nothing_is_read _ _ told status events read.0 _ _ read.2.1 is
          (may.1 ∙ c.ended_without.ensures.events)));
      to_its_end = λ none low. absurd (⊎_elim (λ five. omega (arith, low, is, five.0))
          (λ six. omega (arith, low, is, six)) read.2.1.behind);
      unread = λ some. absurd (sampled_not _ read.2.0 some);
      unopened = ⊎_elim (λ some. c.in-Nothing.ensures.unopened (inl some))
          (λ none. c.in-Nothing.ensures.unopened (inr (unnamed c.args.options.now.cp none)));
    }
