use Rattle.std.proofs.Common.{◌≡◌}
use Rattle.xs_levels.proofs.Drawn.{fault_absent, fault_long}
use Rattle.xs_levels.proofs.stock.ask.Goals as goal

pub returns-in-Absent-clause-refused : goal.returns-in-Absent-clause-refused
returns-in-Absent-clause-refused g c = λ files e limit over.
    let none = rw (e, c.file.ensures) at c.in-Absent.ensures.answer in
    fault_absent files (g.F.FileTable.told c.args.table.now) c.args.d none

pub returns-in-TooLong-clause-refused : goal.returns-in-TooLong-clause-refused
returns-in-TooLong-clause-refused g c = λ files e limit over.
    let found = rw (e, c.file.ensures) at c.in-TooLong.ensures.answer in
    fault_long files (g.F.FileTable.told c.args.table.now) c.args.d found.0 found.1 found.2
