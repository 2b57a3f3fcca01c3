-- Each alias tells its section of its drawing, over that of an earlier one.
use Rattle.std.proofs.Common.{◌≡◌, ℕ, None, length, slice_index_or, subst, arith}
use Rattle.xs_plan.specs.Kept.{IsLastAmong}
use Rattle.xs_plan.proofs.LastLemmas.{AreLast-told}
use Rattle.xs_plan.proofs.last.last_sections.Goals as goal

pub returns-clause-last : goal.returns-clause-last
returns-clause-last c = λ p tell.
    let all : c.loop-k.k ≡ length c.args.aliases.now.entries = omega (arith, c.len-k-end.ensures.count) in
    AreLast-told p c.args.aliases.now.entries c.args.firsts.now.items c.loop-k.last.items
    (λ d. subst (λ (n : ℕ). IsLastAmong c.args.aliases.now.entries c.args.firsts.now.items n d (slice_index_or c.loop-k.last.items d None)) all
    (c.loop-k.invariant.among d)) tell
