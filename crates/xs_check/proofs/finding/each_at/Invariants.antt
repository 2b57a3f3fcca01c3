use Rattle.std.proofs.Common.{◌≡◌, drop}
use Rattle.xs_fault.specs.Paths.{index_at}
use Rattle.xs_check.specs.Finding.{each_from}
use Rattle.xs_check.proofs.finding.each_at.Given as goal

abbrev pub invariant-loop-i : goal.invariant-loop-i
invariant-loop-i g l =
    each_from (λ i x. g.R.Requirement.finds l.required (index_at l.at i) x) l.i (drop l.i l.items)
    ≡ each_from (λ i x. g.R.Requirement.finds l.required (index_at l.at i) x) 0 l.items
