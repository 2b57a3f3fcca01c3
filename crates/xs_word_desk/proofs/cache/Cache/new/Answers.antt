use Rattle.std.proofs.Common.{rules, ◌≡◌, ◌<◌, ◌^◌, ℕ, length, sym, ap, subst, ◌∙◌, arith}
use Rattle.std.proofs.lemmas.List.Elements.{All-get_or}
use Rattle.xs_plan.specs.Record.{PlanRecord}
use Rattle.xs_plan.specs.Reads.{reads_in, sources}
use Rattle.xs_core.specs.Kept.{IsCounted}
use Rattle.xs_core.specs.States.{source_at}
use Rattle.xs_word_desk.proofs.PlanLemmas.{some_alias}
use Rattle.xs_word_desk.proofs.cache.Cache.new.Goals as goal

pub invariant_of-cache : goal.invariant_of-cache
invariant_of-cache g c =
    let p = c.args.p.now in
    let same : p ≡ c.in_ok-table.table.shared.key = sym c.in_ok-table.ensures.plan in
    let valid = c.aliases-aliases.ensures.valid in
    let exist = c.reads_have_their_sources.ensures.exist p valid in
    let few : length p.entries < 2 ^ 32 = omega (arith, valid.few_aliases) in
    let few_reads : reads_in p < 2 ^ 32 = search rules in
    record {
      words = c.in_ok-table.ensures.counts.0 ∙ ap (λ (q : PlanRecord). length q.entries) same;
      there = subst (λ (q : PlanRecord). (e : ℕ) → e < reads_in q → source_at q e < length q.entries) same
          (λ e less. All-get_or (λ k. k < length p.entries) (sources p) e 0 less exist);
      some = subst (λ (q : PlanRecord). 0 < length q.entries) same (some_alias p valid);
      few = subst (λ (q : PlanRecord). length q.entries < 2 ^ 32) same few;
      counted = subst (λ (q : PlanRecord). IsCounted q c.in_ok-reader_counts.reader_counts.items) same c.in_ok-reader_counts.ensures;
      sourced = c.in_ok-read_sources.ensures ∙ ap sources same;
      few_reads = subst (λ (q : PlanRecord). reads_in q < 2 ^ 32) same few_reads;
    }
