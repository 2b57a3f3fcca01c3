-- What a plan has
use Rattle.std.proofs.Common.{◌<◌, ◌≤◌, length, arith}
use Rattle.std.proofs.lemmas.List.Elements.{All-get_or}
use Rattle.xs_plan.specs.Record.{PlanRecord}
use Rattle.xs_plan.specs.Valid.{IsPlan}

-- some alias: that of its first row and tile
pub some_alias : (p : PlanRecord) → IsPlan p → 0 < length p.entries
some_alias p plan =
    let root = plan.roots 0 0 (omega (arith, plan.few_rows)) (omega (arith, plan.few_tiles)) in
    let most = All-get_or (λ end. end ≤ length p.entries) p.ends 0 0 (omega (arith, plan.few_rows)) plan.ends.within in
    omega (arith, root.there, most)
