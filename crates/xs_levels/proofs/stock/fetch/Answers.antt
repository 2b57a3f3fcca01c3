use Rattle.std.proofs.Common.{◌≡◌, ◌∙◌, sym, ap}
use Rattle.std.proofs.lemmas.Result.{err_from_is_err_and}
use Rattle.xs_rawfile.specs.Level.{first_fault}
use Rattle.xs_levels.specs.Films.{fault_of}
use Rattle.xs_levels.specs.Table.{kind_of, raw_kind_of}
use Rattle.xs_levels.proofs.Drawn.{refused_unread, fault_read}
use Rattle.xs_levels.proofs.stock.fetch.Goals as goal

pub returns-in_err-drawing-clause-refused : goal.returns-in_err-drawing-clause-refused
returns-in_err-drawing-clause-refused g c =
    let p = err_from_is_err_and c.from_residual-in_err-drawing.result c.from_residual-in_err-drawing.ensures.1 in
    let t = g.F.FileTable.told c.args.table.now in
    rw (p.1, p.2)
    (λ files e limit over.
    let bytes = c.in_ok-bytes.ensures.bytes files e in
    let fault : fault_of files t c.args.d ≡ first_fault (raw_kind_of (kind_of t c.args.d)) c.in_ok-bytes.bytes =
    fault_read files t c.args.d c.in_ok-bytes.bytes bytes.0 bytes.1 in
    refused_unread files t limit over c.args.d (first_fault (raw_kind_of (kind_of t c.args.d)) c.in_ok-bytes.bytes) _ fault
    (rw (c.raw_kind.ensures, c.kind.ensures) at c.in_err-drawing.ensures.unread))

pub returns-clause-faultless : goal.returns-clause-faultless
returns-clause-faultless g c = λ files e.
    let bytes = c.in_ok-bytes.ensures.bytes files e in
    fault_read files (g.F.FileTable.told c.args.table.now) c.args.d c.in_ok-bytes.bytes bytes.0 bytes.1
    ∙ rw (c.raw_kind.ensures, c.kind.ensures) at c.in_ok-drawing.ensures.accepted
