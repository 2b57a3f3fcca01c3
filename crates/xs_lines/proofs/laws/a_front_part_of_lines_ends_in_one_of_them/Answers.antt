use Rattle.xs_lines.proofs.LineLists.{front_of}
use Rattle.xs_lines.proofs.laws.a_front_part_of_lines_ends_in_one_of_them.Goals as goal

pub returns : goal.returns
returns c = front_of
