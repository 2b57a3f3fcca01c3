use Rattle.std.proofs.Common.{◌≡◌, ◌+◌, ◌-◌, ℕ, map, ◌∙◌}
use Rattle.std.specs.List.{range_with_len}
use Rattle.std.proofs.lemmas.List.FromFn.{length-map-range_with_len}
use Rattle.xs_rect.specs.Tiles.{tile_areas}
use Rattle.xs_scene.specs.Records.{SceneRecord}
use Rattle.xs_meaning.specs.Expressions.{root_of}
use Rattle.xs_plan.specs.Record.{PlanRecord, rows_in}
use Rattle.xs_render.specs.Scenes.{ShowsScene}
use Rattle.xs_render.proofs.SceneLemmas.{same_sections, same_rows}
use Rattle.xs_render.proofs.laws.sections_of_a_plan_are_those_of_its_rows.Goals as goal

pub returns : goal.returns
returns c =
    let many : (s : SceneRecord) (from rows : ℕ) (p : PlanRecord) → ShowsScene s from rows p → rows_in p ≡ rows =
    λ s from rows p shows.
    c.a_shown_plan_has_what_is_counted.ensures.rows (tile_areas s.camera.w s.camera.h) (map (root_of s) (range_with_len from rows)) p shows
    ∙ length-map-range_with_len (root_of s) from rows in
    record {
      rows = many;
      sections = λ s from to p some shows. same_sections from to p some (many s from (to + 1 - from) p shows);
      section = λ s from to p some shows n. same_rows from to p n some (many s from (to + 1 - from) p shows);
    }
