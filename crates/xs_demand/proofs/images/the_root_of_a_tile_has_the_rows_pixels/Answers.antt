use Rattle.std.proofs.Common.{◌∙◌}
use Rattle.xs_meaning.specs.Expressions.{root_of}
use Rattle.xs_demand.specs.Renamed.{renamed}
use Rattle.xs_demand.proofs.ColouredImages.{image-is_value}
use Rattle.xs_demand.proofs.PlanImages.{root-image}
use Rattle.xs_demand.proofs.RenamedImages.{image-renamed}
use Rattle.xs_demand.proofs.images.the_root_of_a_tile_has_the_rows_pixels.Goals as goal

pub returns : goal.returns
returns c =
    let ends = c.clear_pixels_at_the_end_tell_nothing.ensures.pixels in
    let rows = c.root_has_the_value_of_its_row.ensures.root in
    record {
      named = λ s pictures names tiles roots p range pixels written shows place tile row at on q.
          root-image ends pictures tiles roots p shows place tile (renamed names (root_of s row)) at on q
          ∙ image-renamed names pictures (root_of s row) q
          ∙ image-is_value s (λ d. pictures (names d)) written (root_of s row) q
          ∙ rows s (λ d. pictures (names d)) range (λ d. pixels (names d)) row q;
      own = λ s pictures tiles roots p range pixels written shows place tile row at on q.
          root-image ends pictures tiles roots p shows place tile (root_of s row) at on q
          ∙ image-is_value s pictures written (root_of s row) q
          ∙ rows s pictures range pixels row q;
    }
