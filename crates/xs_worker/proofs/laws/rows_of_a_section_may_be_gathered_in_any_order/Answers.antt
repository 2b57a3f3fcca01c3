use Rattle.xs_plan.specs.Record.{PlanRecord}
use Rattle.xs_plan.specs.Valid.{IsPlan}
use Rattle.xs_worker.proofs.SectionLemmas.{Facts, facts_of}
use Rattle.xs_worker.proofs.HeldLemmas.{root_known, done_still}
use Rattle.xs_worker.proofs.laws.rows_of_a_section_may_be_gathered_in_any_order.Goals as goal

pub returns : goal.returns
returns c =
    let reads = c.reads_have_their_sources.ensures in
    let rows = c.aliases_come_with_the_first_row_that_reaches_them.ensures in
    let facts : (p : PlanRecord) → IsPlan p → Facts p = λ p valid.
    facts_of p valid (reads.sources p) (reads.ports p) (reads.roots p valid) (reads.exist p valid) (rows.there p valid) (rows.no_earlier p valid) in
    record {
      ready = λ p valid s v k. root_known p s v k (facts p valid);
      done = λ p valid s v w reads. done_still p s v w reads (facts p valid);
    }
