use Rattle.std.proofs.Common.{ℕ, List, [], ◌∷◌, ◌++◌, sym, ap, ◌∙◌}
use Rattle.xs_dryrun.proofs.Planners.{range_next}
use Rattle.xs_dryrun.proofs.range.own_names.Goals as goal

pub loop-d-preserved : goal.loop-d-preserved
loop-d-preserved c =
    c.in_ok-push.ensures.items ∙ ap (λ (l : List ℕ). l ++ c.loop-d.d ∷ []) c.loop-d.invariant ∙ sym (range_next c.loop-d.d)
