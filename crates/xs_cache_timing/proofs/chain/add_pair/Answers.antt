-- What reads the last alias is the last one, and reaches what that reaches.
use Rattle.std.proofs.Common.{◌≡◌, ◌+◌, ◌∷◌, [], ℕ, length, subst, sym, ap, ◌∙◌, refl, arith}
use Rattle.xs_pixel.specs.declared.operation.Op.TheVariants as op
use Rattle.xs_plan.specs.declared.job.Job.TheVariants as job
use Rattle.xs_plan.specs.Record.{Entry}
use Rattle.xs_plan.specs.Draft.{with_entry}
use Rattle.xs_cache_timing.specs.Chains.{IsChain}
use Rattle.xs_cache_timing.proofs.ChainLemmas.{chain_of_more}
use Rattle.xs_cache_timing.proofs.chain.add_pair.Goals as goal

pub returns-clause-chain : goal.returns-clause-chain
returns-clause-chain c =
    let law = c.aliases_reach_what_their_inputs_reach.ensures in
    let d = c.args.b.now in
    let e : Entry = record { job = job.Pair op.Over; rect = c.args.tile; inputs = c.args.last ∷ c.args.last ∷ [] } in
    rw (c.in_ok-k.ensures.number, c.in_ok-k.ensures.added)
    (subst (λ (n : ℕ). IsChain (with_entry d e) n c.args.tile) (sym c.requires.chain.last)
    (chain_of_more law.itself law.input law.more d c.args.last c.args.tile e c.requires.chain refl refl tt (0, omega arith, refl)))
