use Rattle.std.proofs.Common.{ap₂, map, ◌∙◌}
use Rattle.xs_base.specs.Once.{fresh}
use Rattle.xs_base.specs.Sections.{rows_of}
use Rattle.xs_meaning.specs.Expressions.{root_of}
use Rattle.xs_demand.proofs.Drawn.{TakenOnce}
use Rattle.xs_demand.proofs.SceneSections.{drawings-before, drawings-in_section}
use Rattle.xs_demand.proofs.SectionDrawings.{needed-is}
use Rattle.xs_demand.proofs.needed.needed_drawings_are_those_of_the_rows.Goals as goal

pub returns : goal.returns
returns c =
    let law = c.each_number_is_taken_once.ensures in
    let once : TakenOnce =
    record { new = law.one_after_another; all = law.all_of_the_first_known; nothing = law.nothing_new; found = law.found } in
    record {
      roots = needed-is once;
      scenes = λ s from to tiles p shows some n.
          needed-is once tiles (map (root_of s) (rows_of from to)) p shows some n
          ∙ ap₂ fresh (drawings-before s from to n) (drawings-in_section s from to n);
    }
