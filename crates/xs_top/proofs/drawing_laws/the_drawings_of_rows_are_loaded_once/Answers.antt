use Rattle.xs_top.proofs.Finishing.{numbers_loaded}
use Rattle.xs_top.proofs.drawing_laws.the_drawings_of_rows_are_loaded_once.Goals as goal

pub returns : goal.returns
returns c =
    let law = c.each_number_is_taken_once.ensures in
    numbers_loaded (record { all = law.all_of_the_first_known; new = law.one_after_another })
