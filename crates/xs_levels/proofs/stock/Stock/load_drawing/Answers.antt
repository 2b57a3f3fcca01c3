use Rattle.std.proofs.Common.{◌≡◌, ◌∙◌, ◌+◌, ◌≤◌, ◌<◌, sym, ap, arith}
use Rattle.std.proofs.lemmas.Result.{err_from_is_err_and}
use Rattle.xs_levels.specs.Table.{kind_of}
use Rattle.xs_levels.specs.Stocked.{raw_bytes}
use Rattle.xs_levels.proofs.Drawn.{names_kind, filmed, bytes_are}
use Rattle.xs_levels.proofs.Taking.{kind_named}
use Rattle.xs_levels.proofs.stock.Stock.load_drawing.Goals as goal

pub returns-in_err-drawing-clause-refused : goal.returns-in_err-drawing-clause-refused
returns-in_err-drawing-clause-refused g c =
    let p = err_from_is_err_and c.from_residual.result c.from_residual.ensures.1 in
    rw (p.1, p.2) (λ files e. c.in_err-drawing.ensures.refused files e c.args.self.now.limit c.args.self.now.bytes)

pub returns-then-bytes-self-clause-refused : goal.returns-then-bytes-self-clause-refused
returns-then-bytes-self-clause-refused g c = λ files e.
    let size = bytes_are files (g.F.FileTable.told c.args.table.now) c.args.d c.in_ok-drawing.drawing (c.in_ok-drawing.ensures.drawing files e) in
    let counted = rw (← c.self.view_is) at c.requires.may.counted in (
      c.in_ok-drawing.ensures.faultless files e,
      rw (← c.self.view_is) (omega (arith, size, counted.few, c.bytes_of-bytes.ensures, c.if-bytes-self.true)),
    )

pub hold-requires-clause-film : goal.hold-requires-clause-film
hold-requires-clause-film g c = λ pictures e.
    rw (c.palette_number-palette.ensures, c.kind.ensures)
    (filmed (g.L.Library.files c.args.lib.now) (g.F.FileTable.told c.args.table.now) c.args.self.now.held.palettes c.args.d c.in_ok-drawing.drawing pictures
    (sym c.requires.film ∙ e) c.requires.may.as_written c.in_ok-drawing.ensures.drawing)

pub returns-clause-taken : goal.returns-clause-taken
returns-clause-taken g c = (
  raw_bytes c.in_ok-drawing.drawing,
  c.hold-2.ensures,
  λ files e. (
    c.in_ok-drawing.ensures.faultless files e,
    bytes_are files (g.F.FileTable.told c.args.table.now) c.args.d c.in_ok-drawing.drawing (c.in_ok-drawing.ensures.drawing files e),
  ),
)
