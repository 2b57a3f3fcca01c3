use Rattle.std.proofs.Common.{◌≡◌, ◌++◌, take, Some}
use Rattle.xs_outside.specs.Told.{more}
use Rattle.xs_plan.specs.Needed.{needs_before, new_drawings}
use Rattle.xs_levels.specs.Films.{Files}
use Rattle.xs_levels.specs.Stocked.{IsStockOf}
use Rattle.xs_levels.specs.Loading.{Passed, bytes_after, names_of}
use Rattle.xs_levels.proofs.stock.Stock.load.Given as goal

abbrev pub invariant-loop-at : goal.invariant-loop-at
invariant-loop-at g l =
    record {
      news : l.news ≡ new_drawings l.p l.s;
      stock : IsStockOf l.p (g.F.FileTable.told l.table) l.s (needs_before l.p l.s ++ take l.at (new_drawings l.p l.s)) l.self;
      told : (files : Files) → g.L.Library.files l.initial.lib ≡ Some files
          → Passed files (g.F.FileTable.told l.table) l.initial.self.limit l.initial.self.bytes (new_drawings l.p l.s) l.at
          × (l.self.bytes ≡ bytes_after files (g.F.FileTable.told l.table) l.initial.self.bytes (new_drawings l.p l.s) l.at);
      asked : g.L.Library.asked l.lib
          ≡ more (g.L.Library.asked l.initial.lib) (names_of (g.F.FileTable.told l.table) (take l.at (new_drawings l.p l.s)));
      same : g.L.Library.files l.lib ≡ g.L.Library.files l.initial.lib;
      faults : g.L.Library.faults l.lib ≡ g.L.Library.faults l.initial.lib;
      limit : l.self.limit ≡ l.initial.self.limit;
      loaded : l.self.loaded ≡ l.initial.self.loaded;
      ended : l.self.ended ≡ l.initial.self.ended;
    }
