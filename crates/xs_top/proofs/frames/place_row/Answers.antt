use Rattle.std.proofs.Common.{◌≡◌, ◌∙◌, ◌+◌, ap, subst, Some}
use Rattle.std.proofs.lemmas.Result.{err_from_is_err_and}
use Rattle.xs_levels.specs.Films.{film_of}
use Rattle.xs_levels.specs.Table.{table_of}
use Rattle.xs_plan.specs.Record.{rows_in}
use Rattle.xs_render.specs.Scenes.{AreOf}
use Rattle.xs_scene.specs.InRange.{IsInRange}
use Rattle.xs_scene.specs.Records.{SceneRecord}
use Rattle.xs_top.specs.Drawings.{pictures_of}
use Rattle.xs_top.proofs.Parts.{stopped_here}
use Rattle.xs_top.proofs.Placed.{frame_file_is}
use Rattle.xs_top.proofs.frames.place_row.Goals as goal

pub returns-in_err-name-clause-did : goal.returns-in_err-name-clause-did
returns-in_err-name-clause-did g c = λ files e next.
    let p = err_from_is_err_and c.from_residual.result c.from_residual.ensures.1 in
    rw (p.1, p.2) (stopped_here _ _)

pub returns-clause-did : goal.returns-clause-did
returns-clause-did g c = λ files e next.
    let s = c.args.good.now in
    let pictures = pictures_of files s in
    let told : g.K.Film.pictures ≡ Some pictures = c.requires.film ∙ ap (λ f. film_of f (table_of s)) e in
    let are : AreOf s pictures = record {
      range = subst (λ (x : SceneRecord). IsInRange x) c.scene.ensures.value c.in_range.ensures;
      pixels = c.pictures_of_files_are_coloured_as_written.ensures.pixels files (table_of s);
      written = c.pictures_of_files_are_coloured_as_written.ensures.coloured files s;
    } in
    let file = c.row_bytes-bytes.ensures.scene s pictures c.args.from (rows_in c.args.p.now) told are c.requires.scene c.requires.there c.requires.area in
    rw (frame_file_is s pictures (c.args.from + c.args.row))
    (rw (c.as_str.ensures.value, c.in_ok-name.ensures, file) at (c.place.ensures.did next))
