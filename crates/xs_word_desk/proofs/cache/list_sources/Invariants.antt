use Rattle.std.proofs.Common.{◌≡◌, ◌≤◌, take, vec_capacity}
use Rattle.xs_plan.specs.Reads.{sources}
use Rattle.xs_word_desk.proofs.cache.list_sources.Given as goal

abbrev pub invariant-loop-e : goal.invariant-loop-e
invariant-loop-e l = (l.e-end ≤ vec_capacity l.list) × (l.list.items ≡ take l.e (sources l.p))
