use Rattle.std.proofs.Common.{◌≡◌, None}
use Rattle.xs_levels.specs.Stocked.{IsStock}
use Rattle.xs_stock_timing.proofs.stocked.load_all.Given as goal

abbrev pub invariant-loop-s : goal.invariant-loop-s
invariant-loop-s g l = record {
  files : g.L.Library.files l.lib ≡ None;
  stock : IsStock l.p (g.F.FileTable.told l.table) l.stock;
  loaded : l.stock.loaded ≡ l.s;
  ended : l.stock.ended ≡ l.s;
}
