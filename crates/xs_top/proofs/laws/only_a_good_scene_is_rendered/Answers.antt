use Rattle.xs_top.proofs.Listings.{TakenOnce}
use Rattle.xs_top.proofs.Finishing.{rendered_within, rendered_accepted, says_once}
use Rattle.xs_top.proofs.Rendering.{rendered_scene}
use Rattle.xs_top.proofs.laws.only_a_good_scene_is_rendered.Goals as goal

pub returns : goal.returns
returns c =
    let law = c.each_number_is_taken_once.ensures in
    let once : TakenOnce = record { all = law.all_of_the_first_known; new = law.one_after_another } in
    record {
      said = rendered_scene;
      within = λ files name base s from to ordered says ends.
          let read = rendered_scene files name base from to ordered ends in
          rendered_within files name base s from to says (says_once files name read.0 s read.1 says read.2) ends;
      accepted = λ files name base s from to ordered says ends.
          let read = rendered_scene files name base from to ordered ends in
          rendered_accepted files name base s from to says (says_once files name read.0 s read.1 says read.2) once ordered ends;
    }
