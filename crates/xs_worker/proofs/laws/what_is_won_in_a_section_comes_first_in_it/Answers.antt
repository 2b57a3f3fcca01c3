use Rattle.xs_plan.specs.Record.{PlanRecord}
use Rattle.xs_plan.specs.Valid.{IsPlan}
use Rattle.xs_worker.proofs.SectionLemmas.{Facts, facts_of, first_here}
use Rattle.xs_worker.proofs.laws.what_is_won_in_a_section_comes_first_in_it.Goals as goal

pub returns : goal.returns
returns c =
    let reads = c.reads_have_their_sources.ensures in
    let rows = c.aliases_come_with_the_first_row_that_reaches_them.ensures in
    let facts : (p : PlanRecord) → IsPlan p → Facts p = λ p valid.
    facts_of p valid (reads.sources p) (reads.ports p) (reads.roots p valid) (reads.exist p valid) (rows.there p valid) (rows.no_earlier p valid) in
    λ p valid s targets v k. first_here p s targets v k (facts p valid)
