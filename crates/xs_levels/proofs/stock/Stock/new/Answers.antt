use Rattle.xs_levels.proofs.Counting.{stock_none}
use Rattle.xs_levels.proofs.stock.Stock.new.Goals as goal

pub returns-clause-stock : goal.returns-clause-stock
returns-clause-stock g c = record {
  table = c.drawings.ensures.sound;
  stock = rw (
    c.in_ok-drawings.ensures,
    c.in_ok-lasts.ensures,
    c.drawings.ensures.count,
    c.drawings-2.ensures.count,
    c.sections.ensures,
  )
      (stock_none c.args.p.now (g.F.FileTable.told c.args.table.now) c.args.limit c.in_ok-palettes.palettes c.in_ok-palettes.ensures.count
      c.in_ok-palettes.ensures.written);
}
