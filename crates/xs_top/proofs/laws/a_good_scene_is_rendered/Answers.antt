use Rattle.xs_top.proofs.Listings.{TakenOnce}
use Rattle.xs_top.proofs.Finishing.{rendered_ends, rendered_asks, rendered_puts, rendered_lines}
use Rattle.xs_top.proofs.laws.a_good_scene_is_rendered.Goals as goal

pub returns : goal.returns
returns c =
    let law = c.each_number_is_taken_once.ensures in
    let once : TakenOnce = record { all = law.all_of_the_first_known; new = law.one_after_another } in
    record { ends = rendered_ends once; asked = rendered_asks once; frames = rendered_puts once; noted = rendered_lines once }
