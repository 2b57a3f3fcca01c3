use Rattle.xs_plan.specs.Record.{entry_at}
use Rattle.std.proofs.lemmas.Option.{unwrap_or-slice_get}
use Rattle.xs_lines.proofs.line.input.Goals as goal

-- src/line.rt:29:1
pub returns : goal.returns
returns c = rw (c.unwrap_or.ensures, c.input.ensures) (unwrap_or-slice_get (entry_at c.args.p.now.entries c.args.k).inputs c.args.port 0)
