use Rattle.std.proofs.Common.{rules}
use Rattle.xs_outside.proofs.mem_library.MemLibraryLibrary.get.Goals as goal

pub returns-then-fails-clause-planned : goal.returns-then-fails-clause-planned
returns-then-fails-clause-planned c = rw (← c.self.view_is) (c.begin-fails.ensures.fails.0 c.if-fails.true, search rules)
