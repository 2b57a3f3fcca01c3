-- The first alias reaches itself.
use Rattle.std.proofs.Common.{◌∷◌, [], pos, refl, arith}
use Rattle.xs_plan.specs.declared.job.Job.TheVariants as job
use Rattle.xs_plan.specs.Record.{Entry}
use Rattle.xs_cache_timing.proofs.ChainLemmas.{chain_of_one}
use Rattle.xs_cache_timing.proofs.chain.add_leaf.Goals as goal

pub returns-clause-chain : goal.returns-clause-chain
returns-clause-chain c =
    let law = c.aliases_reach_what_their_inputs_reach.ensures in
    let e : Entry = record { job = job.Leaf 0 (pos 0) (pos 0); rect = c.args.tile; inputs = [] } in
    rw (c.in_ok-k.ensures.number, c.in_ok-k.ensures.added, c.requires.new)
    (chain_of_one law.itself law.input law.more c.args.tile e refl refl (omega arith))
