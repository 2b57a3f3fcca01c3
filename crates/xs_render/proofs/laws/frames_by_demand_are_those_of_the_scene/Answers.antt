use Rattle.std.proofs.Common.{◌<◌, ◌+◌, List, length, map, subst}
use Rattle.std.specs.List.{range_with_len}
use Rattle.xs_rect.specs.Area.{Area}
use Rattle.xs_rect.specs.Tiles.{tile_areas}
use Rattle.xs_meaning.specs.Expressions.{root_of}
use Rattle.xs_render.proofs.FrameLemmas.{root_there, same_file}
use Rattle.xs_render.proofs.laws.frames_by_demand_are_those_of_the_scene.Goals as goal

pub returns : goal.returns
returns c = λ s pictures from rows row p told image are shows there is tells shown.
    same_file s pictures p row (from + row) told image (c.frames_go_row_by_row.ensures.count s pictures (from + row))
    (c.frames_go_row_by_row.ensures.order s pictures (from + row))
    (λ tile tile_there q.
    c.the_root_of_a_tile_has_the_rows_pixels.ensures.own s pictures (tile_areas s.camera.w s.camera.h)
    (map (root_of s) (range_with_len from rows)) p are.range are.pixels are.written shows row tile (from + row)
    (root_there s from rows row there) (subst (λ (l : List Area). tile < length l) shows.frame tile_there) q)
    is tells shown
