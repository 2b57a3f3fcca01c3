use Rattle.xs_top.proofs.Computed.{all_computed, others_idle}
use Rattle.xs_top.proofs.command.run.Goals as goal

pub returns-in-Ok-clause-once : goal.returns-in-Ok-clause-once
returns-in-Ok-clause-once g c =
    rw (all_computed g.B.Bench.made c.try_run.new.bench c.args.benches.now.items c.requires.benches c.requires.unused) c.in-Ok.ensures.once

pub returns-in-Err-clause-once : goal.returns-in-Err-clause-once
returns-in-Err-clause-once g c =
    rw (all_computed g.B.Bench.made c.try_run.new.bench c.args.benches.now.items c.requires.benches c.requires.unused, c.requires.open) c.in-Err.ensures.once

pub returns-in-Ok-clause-idle : goal.returns-in-Ok-clause-idle
returns-in-Ok-clause-idle g c =
    others_idle g.B.Bench.made c.try_run.new.bench c.args.benches.now.items _ c.requires.benches c.requires.unused c.in-Ok.ensures.idle

pub returns-in-Err-clause-idle : goal.returns-in-Err-clause-idle
returns-in-Err-clause-idle g c =
    others_idle g.B.Bench.made c.try_run.new.bench c.args.benches.now.items _ c.requires.benches c.requires.unused c.in-Err.ensures.idle
