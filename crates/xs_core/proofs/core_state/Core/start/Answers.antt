use Rattle.std.proofs.Common.{◌≡◌, false, length, replicate, rules}
use Rattle.xs_plan.specs.Reads.{reads_in}
use Rattle.xs_core.specs.declared.state.Phase.TheVariants.{Idle}
use Rattle.xs_core.specs.declared.state.ReadState.TheVariants.{Waiting}
use Rattle.xs_core.specs.declared.state.TileState.TheVariants.{Absent}
use Rattle.xs_core.proofs.KeptLemmas.{keeps_start}
use Rattle.xs_core.proofs.core_state.Core.start.Goals as goal

pub invariant_of-result : goal.invariant_of-result
invariant_of-result c =
    let kept = keeps_start c.args.p.now c.in_ok-open_reads.open_reads.items c.aliases-aliases.ensures.valid c.in_ok-open_reads.ensures in
    let phases : c.in_ok-phases.phases.items ≡ replicate (length c.args.p.now.entries) Idle = search rules in
    let reads : c.in_ok-reads.reads.items ≡ replicate (reads_in c.args.p.now) Waiting = search rules in
    let tiles : c.in_ok-tiles.tiles.items ≡ replicate (length c.args.p.now.entries) Absent = search rules in
    let turning : c.in_ok-turning.turning.items ≡ replicate (length c.args.p.now.entries) false = search rules in
    rw (c.of.ensures, phases, reads, tiles, turning) kept
