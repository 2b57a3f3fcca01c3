use Rattle.xs_base.specs.Sections.{rows_of}
use Rattle.xs_levels.specs.Table.{table_of}
use Rattle.xs_make.specs.Scenes.{scene_from}
use Rattle.xs_top.specs.Generated.{made_files}
use Rattle.xs_top.specs.Finished.{AreAccepted}
use Rattle.xs_top.specs.Rendered.{AreWithin}
use Rattle.xs_top.proofs.Listings.{TakenOnce}
use Rattle.xs_top.proofs.MadeLoads.{sections_within, needed_there}
use Rattle.xs_top.proofs.Making.{renders_whole}
use Rattle.xs_top.proofs.make.generated_scenes_are_rendered_whole.Goals as goal

pub returns : goal.returns
returns c = λ seed rows least most.
    let s = scene_from seed rows in
    let ranges = c.generated_scenes_are_in_range.ensures seed rows least most in
    let law = c.each_number_is_taken_once.ensures in
    let once : TakenOnce = record { all = law.all_of_the_first_known; new = law.one_after_another } in
    let within : AreWithin (made_files seed) s 1 rows = record {
      demand = c.generated_rows_pass_no_limit.ensures seed rows most;
      sections = sections_within seed rows (λ d. c.generated_files_are_accepted.ensures.small seed rows d) (c.generated_rows_show_few_drawings.ensures seed rows);
    } in
    let good = c.scenes_without_a_fault_are_good.ensures.good s (c.generated_scenes_have_no_fault.ensures seed rows) ranges in
    let ok : AreAccepted (made_files seed) s (rows_of 1 rows) = λ d listed.
    let there = needed_there s 13 (c.drawings_of_rows_are_there.ensures s good) (rows_of 1 rows) d listed in
    let (bytes, found, short, faultless) = c.generated_files_are_accepted.ensures.accepted seed rows d there in
    record { bytes = bytes; there = found; short = short; faultless = faultless } in
    renders_whole once seed rows least most within ok
    (λ row p. c.frames_hold_pixels.ensures s _ ranges (c.pictures_of_files_are_coloured_as_written.ensures.pixels (made_files seed) (table_of s)) row p)
