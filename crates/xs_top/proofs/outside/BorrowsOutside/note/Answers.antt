use Rattle.std.proofs.Common.{refl, inl, inr}
use Rattle.xs_top.proofs.Answered.{noted_done, noted_failed, noted_memory}
use Rattle.xs_top.proofs.outside.BorrowsOutside.note.Goals as goal

pub returns-in-Done-clause-wrote : goal.returns-in-Done-clause-wrote
returns-in-Done-clause-wrote g c = noted_done _ _ _ c.in-Done.ensures.answer

pub returns-in-Failed-clause-wrote : goal.returns-in-Failed-clause-wrote
returns-in-Failed-clause-wrote g c = inr (refl, noted_failed _ _ _ c.in-Failed.ensures.answer.1, c.in-Failed.ensures.answer.0)

pub returns-in-Memory-clause-wrote : goal.returns-in-Memory-clause-wrote
returns-in-Memory-clause-wrote g c = inl (refl, noted_memory _ _ _ c.in-Memory.ensures.answer)
