use Rattle.xs_worker.proofs.ReadLemmas.{tells_reads}
use Rattle.xs_worker.proofs.reads.tell_reads.Goals as goal

pub returns : goal.returns
returns c =
    let p = c.args.p.now in
    let laws = c.reads_have_their_sources.ensures in
    tells_reads p c.aliases.ensures.valid (laws.sources p) (laws.ports p)
