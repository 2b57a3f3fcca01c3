-- Each row adds one clear alias, and is rooted at it.
use Rattle.std.proofs.Common.{◌≡◌, ◌<◌, ◌+◌, ℕ, [], ◌∷◌, ◌++◌, All, IfSome, length, ap, sym, subst, ◌∙◌}
use Rattle.std.proofs.lemmas.List.{length_push}
use Rattle.std.proofs.lemmas.List.Elements.{All-push}
use Rattle.xs_plan.specs.Record.{Entry, drawing_of}
use Rattle.xs_plan.specs.Draft.{Draft}
use Rattle.xs_plan.specs.declared.job.Job.TheVariants.{Clear}
use Rattle.xs_word_tests.proofs.plans.many.Goals as goal

abbrev NeedsNone : Entry → Type 0
NeedsNone e = IfSome (drawing_of e.job) (λ d. d < 0)

pub loop-row-preserved : goal.loop-row-preserved
loop-row-preserved c =
    let was = c.loop-row.b in
    let kept = c.loop-row.invariant in
    let shown = c.in_ok-show.ensures in
    let e : Entry = record { job = Clear; rect = c.args.tile; inputs = [] } in
    let pushed : (length (was.plan.entries ++ e ∷ []) ≡ length was.plan.entries + 1) = length_push was.plan.entries e in
    record {
      tiles = ap (λ (d : Draft). d.plan.tiles) shown ∙ kept.tiles;
      rows = ap (λ (d : Draft). d.rows) shown ∙ kept.rows;
      count = ap (λ (d : Draft). length d.plan.entries) shown ∙ pushed ∙ ap (λ (n : ℕ). n + 1) kept.count;
      roots = ap (λ (d : Draft). length d.plan.roots) shown ∙ length_push was.plan.roots (length was.plan.entries)
          ∙ ap (λ (n : ℕ). n + 1) kept.roots;
      rooted = ap (λ (d : Draft). d.rooted) shown ∙ sym (ap (λ (d : Draft). length d.plan.entries) shown);
      drawn = subst (λ (d : Draft). All NeedsNone d.plan.entries) (sym shown) (All-push NeedsNone was.plan.entries e kept.drawn tt);
    }
