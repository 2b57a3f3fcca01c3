use Rattle.std.proofs.Common.{◌≡◌, ◌<◌, ◌≤◌, ℕ, [], length, slice_index_or, vec_capacity}
use Rattle.xs_palette.specs.Styles.{style_of}
use Rattle.xs_levels.specs.Films.{palettes_of}
use Rattle.xs_levels.proofs.stock.palettes.Given as goal

abbrev pub invariant-loop-i : goal.invariant-loop-i
invariant-loop-i g l =
    record {
      count : length l.palettes.items ≡ l.i;
      room : l.count ≤ vec_capacity l.palettes;
      all : l.count ≡ length (g.F.FileTable.told l.table).palettes;
      shown : (p : ℕ) → p < l.i
          → style_of (slice_index_or l.palettes.items p []) ≡ style_of (slice_index_or (palettes_of (g.F.FileTable.told l.table)) p []);
    }
