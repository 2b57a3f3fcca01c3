use Rattle.xs_top.specs.Outcome.{rendering, rendering_scene, showing, showing_scene}
use Rattle.xs_top.proofs.Endings.{absent_told, too_long_told, render_kept, show_kept}
use Rattle.xs_top.proofs.scene_laws.scenes_without_a_file_are_told.Goals as goal

pub returns : goal.returns
unfolding rendering showing
returns c =
    let texts = c.text_faults.ensures in
    let checking = c.checking_finds_its_codes.ensures in
    record {
      absent = λ files name base from to. absent_told texts checking files name (rendering_scene files from to base) (render_kept files base from to);
      too_long = λ files name base from to. too_long_told texts checking files name (rendering_scene files from to base) (render_kept files base from to);
      absent_to_show = λ files name. absent_told texts checking files name showing_scene show_kept;
      too_long_to_show = λ files name. too_long_told texts checking files name showing_scene show_kept;
    }
