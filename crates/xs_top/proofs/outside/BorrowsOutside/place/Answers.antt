use Rattle.xs_top.proofs.Parts.{stopped_placing, stopped_memory}
use Rattle.xs_top.proofs.Answered.{placed_done, placed_failed, placed_memory}
use Rattle.xs_top.proofs.outside.BorrowsOutside.place.Goals as goal

pub returns-in-Done-clause-did : goal.returns-in-Done-clause-did
returns-in-Done-clause-did g c = λ next. rw c.add.ensures (placed_done _ next _ _ c.in-Done.ensures.answer)

pub returns-in-Failed-clause-did : goal.returns-in-Failed-clause-did
returns-in-Failed-clause-did g c = λ next. stopped_placing _ _ _ (placed_failed _ next _ _ c.in-Failed.ensures.answer.1) c.in-Failed.ensures.answer.0

pub returns-in-Memory-clause-did : goal.returns-in-Memory-clause-did
returns-in-Memory-clause-did g c = λ next. stopped_memory _ _ _ _ (placed_memory _ next _ _ c.in-Memory.ensures.answer)
