use Rattle.xs_plan.specs.Record.{PlanRecord}
use Rattle.xs_plan.specs.Valid.{IsPlan}
use Rattle.xs_worker.proofs.SectionLemmas.{Facts, facts_of}
use Rattle.xs_worker.proofs.HeldLemmas.{held_live, begun_next}
use Rattle.xs_worker.proofs.laws.what_is_held_after_a_section_is_read_later.Goals as goal

pub returns : goal.returns
returns c =
    let reads = c.reads_have_their_sources.ensures in
    let rows = c.aliases_come_with_the_first_row_that_reaches_them.ensures in
    let facts : (p : PlanRecord) → IsPlan p → Facts p = λ p valid.
    facts_of p valid (reads.sources p) (reads.ports p) (reads.roots p valid) (reads.exist p valid) (rows.there p valid) (rows.no_earlier p valid) in
    record {
      held = λ p valid s v k. held_live p s v k (facts p valid) (c.live_aliases_are_read_later.ensures.live p s k);
      begun = λ p valid s v. begun_next p s v (facts p valid);
    }
