-- The reads that were looked at are inside.
use Rattle.std.proofs.Common.{inl, inr, ◌≡◌, ℕ, subst, arith}
use Rattle.std.proofs.lemmas.Bool.{cases_lt}
use Rattle.xs_cache_timing.specs.Blocks.{IsInside}
use Rattle.xs_cache_timing.proofs.block.are_inside.Goals as goal

pub loop-e-preserved : goal.loop-e-preserved
loop-e-preserved c = λ i from lt. elim (cases_lt i c.loop-e.e) [
  | inl before ↦ c.loop-e.invariant i from before
  | inr past ↦
      subst (λ (n : ℕ). IsInside c.args.p.now c.args.block n) (let h : c.loop-e.e ≡ i = omega arith in h)
      (c.is_inside.ensures c.if-not-is_inside.false)
]

pub returns : goal.returns
returns c = λ yes i from lt. c.loop-e.invariant i from (omega arith)
