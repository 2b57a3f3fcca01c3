use Rattle.xs_plan.specs.Record.{PlanRecord}
use Rattle.xs_plan.specs.Valid.{IsPlan}
use Rattle.xs_worker.proofs.SectionLemmas.{Facts, facts_of, section_done, made_in, still_ungathered}
use Rattle.xs_worker.proofs.laws.a_section_is_done_when_its_targets_are_ready.Goals as goal

pub returns : goal.returns
returns c =
    let reads = c.reads_have_their_sources.ensures in
    let rows = c.aliases_come_with_the_first_row_that_reaches_them.ensures in
    let facts : (p : PlanRecord) → IsPlan p → Facts p = λ p valid.
    facts_of p valid (reads.sources p) (reads.ports p) (reads.roots p valid) (reads.exist p valid) (rows.there p valid) (rows.no_earlier p valid) in
    record {
      done = λ p valid s targets v w. section_done p s targets v w (facts p valid);
      made = λ p valid s targets v w. made_in p s targets v w (facts p valid);
      ungathered = λ p valid s targets v w begun ok g e. still_ungathered p s targets v w e (facts p valid) begun ok g;
    }
