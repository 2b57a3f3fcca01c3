use Rattle.std.proofs.Common.{refl}
use Rattle.xs_plan.specs.Reads.{root_read_of}
use Rattle.xs_sections.proofs.rows.gather_alone.Goals as goal

pub may_gather-requires-clause-unserved : goal.may_gather-requires-clause-unserved
may_gather-requires-clause-unserved g c = λ tile there.
    c.requires.ungathered (root_read_of c.args.p.now c.args.row tile) (record {
      row = c.args.row;
      tile = tile;
      row_there = c.requires.row;
      row_in = c.requires.here;
      tile_there = there;
      is = refl;
    })
