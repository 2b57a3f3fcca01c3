use Rattle.std.specs.Prelude.{◌≡◌, ◌++◌, ◌+◌, map, replicate}
use Rattle.std.specs.List.{range_with_len}
use Rattle.xs_dryrun.proofs.rows.Rows.extend.Given as goal

abbrev pub invariant-loop-i : goal.invariant-loop-i
invariant-loop-i l =
    record {
      tiles : l.self.tiles ≡ l.fn.self.tiles;
      firsts : l.self.firsts.items ≡ l.fn.self.firsts.items ++ map (λ k. l.first + k) (range_with_len 0 l.i);
      strides : l.self.strides.items ≡ l.fn.self.strides.items ++ replicate l.i l.stride;
    }
