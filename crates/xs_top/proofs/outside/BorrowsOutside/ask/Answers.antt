use Rattle.std.proofs.Common.{rules}
use Rattle.xs_top.proofs.Parts.{of_file, stopped_whole, stopped_asking, stopped_memory}
use Rattle.xs_top.proofs.Answered.{found_there, found_absent, found_too_long, asked_found, asked_failed, asked_memory}
use Rattle.xs_top.proofs.outside.BorrowsOutside.ask.Goals as goal

pub returns-in-Bytes-clause-did : goal.returns-in-Bytes-clause-did
returns-in-Bytes-clause-did g c = rw c.of.ensures (λ files e next.
    let a = rw e at c.in-Bytes.ensures.answer in
    asked_found _ _ _ next files _ _ _ _ (found_there _ _ _ next _ _ a.1 a.0) c.in-Bytes.ensures.asked)

pub returns-in-Bytes-clause-bytes : goal.returns-in-Bytes-clause-bytes
returns-in-Bytes-clause-bytes g c = rw c.of.ensures (λ files e. let a = rw e at c.in-Bytes.ensures.answer in (a.1, a.0))

pub returns-in-Absent-clause-did : goal.returns-in-Absent-clause-did
returns-in-Absent-clause-did g c = λ files e next.
    let a = rw e at c.in-Absent.ensures.answer in
    stopped_whole _ _ _ _ (of_file c.args.absent c.requires.absent).whole
    (asked_found _ _ _ next files _ _ _ _ (found_absent _ _ _ next _ a) c.in-Absent.ensures.asked)

pub returns-in-TooLong-clause-did : goal.returns-in-TooLong-clause-did
returns-in-TooLong-clause-did g c = λ files e next.
    let a = rw e at c.in-TooLong.ensures.answer in
    stopped_whole _ _ _ _ (of_file c.args.too_long c.requires.too_long).whole
    (asked_found _ _ _ next files _ _ _ _ (found_too_long _ _ _ next _ _ a.1 a.2) c.in-TooLong.ensures.asked)

pub returns-in-Failed-clause-did : goal.returns-in-Failed-clause-did
returns-in-Failed-clause-did g c = λ files e next.
    stopped_asking _ _ _ (asked_failed _ _ _ next files _ _ _ c.in-Failed.ensures.asked)

pub returns-in-Memory-clause-did : goal.returns-in-Memory-clause-did
returns-in-Memory-clause-did g c = λ files e next.
    let part = asked_memory _ _ _ next files _ _ _ c.in-Memory.ensures.asked in
    stopped_memory _ part.0 _ _ part.1

pub returns-in-Absent-clause-keeps : goal.returns-in-Absent-clause-keeps
returns-in-Absent-clause-keeps g c = let file = of_file c.args.absent c.requires.absent in search rules

pub returns-in-TooLong-clause-keeps : goal.returns-in-TooLong-clause-keeps
returns-in-TooLong-clause-keeps g c = let file = of_file c.args.too_long c.requires.too_long in search rules
