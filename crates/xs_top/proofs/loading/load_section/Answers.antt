use Rattle.std.proofs.Common.{refl}
use Rattle.xs_top.proofs.SectionLoads.{done_did, level_did, limit_did, read_fault_stopped, memory_did, level_keeps, read_fault_keeps}
use Rattle.xs_top.proofs.Parts.{stopped_whole, stopped_asking, stopped_memory}
use Rattle.xs_top.proofs.loading.load_section.Goals as goal

pub returns-in-Done-clause-did : goal.returns-in-Done-clause-did
returns-in-Done-clause-did g c = λ files e next.
    let reads = c.load.ensures.reads in
    done_did files c.args.good.now _ _ next _ _ reads.told
    (rw (c.in-Done.is, c.requires.limit) at (c.load.ensures.told files e)) (rw c.in-Done.is at c.load.ensures.asked)

pub returns-in-Level-clause-did : goal.returns-in-Level-clause-did
returns-in-Level-clause-did g c = λ files e next.
    let reads = c.load.ensures.reads in
    stopped_whole _ _ _ _ refl (level_did files c.args.good.now _ _ next _ _ reads.told _ _ _
    (rw (c.in-Level.is, c.requires.limit) at (c.load.ensures.told files e)) (rw c.in-Level.is at c.load.ensures.asked))

pub returns-in-Limit-clause-did : goal.returns-in-Limit-clause-did
returns-in-Limit-clause-did g c = λ files e next.
    let reads = c.load.ensures.reads in
    stopped_whole _ _ _ _ refl (limit_did files c.args.good.now _ _ next _ _ reads.told _ _
    (rw (c.in-Limit.is, c.requires.limit) at (c.load.ensures.told files e)) (rw c.in-Limit.is at c.load.ensures.asked))

pub returns-in-ReadFault-clause-did : goal.returns-in-ReadFault-clause-did
returns-in-ReadFault-clause-did g c = λ files e next.
    let reads = c.load.ensures.reads in
    stopped_asking _ _ _ (read_fault_stopped files c.args.good.now _ _ next _ _ reads.told _
    (rw (c.in-ReadFault.is, c.requires.limit) at (c.load.ensures.told files e)) (rw c.in-ReadFault.is at c.load.ensures.asked))

pub returns-in-Memory-clause-did : goal.returns-in-Memory-clause-did
returns-in-Memory-clause-did g c = λ files e next.
    let reads = c.load.ensures.reads in
    let part = memory_did files c.args.good.now _ _ next _ _ reads.told _
    (rw (c.in-Memory.is, c.requires.limit) at (c.load.ensures.told files e)) (rw c.in-Memory.is at c.load.ensures.asked) in
    stopped_memory _ part.0 _ _ part.1

pub returns-in-Level-clause-keeps : goal.returns-in-Level-clause-keeps
returns-in-Level-clause-keeps g c = level_keeps _ _ _ _ c.load.ensures.reads c.load.ensures.later (rw c.in-Level.is at c.load.ensures.faults)

pub returns-in-ReadFault-clause-keeps : goal.returns-in-ReadFault-clause-keeps
returns-in-ReadFault-clause-keeps g c = read_fault_keeps _ _ c.load.ensures.reads c.load.ensures.later (rw c.in-ReadFault.is at c.load.ensures.faults)
