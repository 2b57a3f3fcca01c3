use Rattle.std.proofs.Common.{List, length, ap, ◌∙◌, subst}
use Rattle.xs_scene.specs.Records.{SceneRecord, LevelRecord}
use Rattle.xs_check.specs.Readers.{IsNumbering}
use Rattle.xs_check.proofs.good.check.Goals as goal

pub invariant_of-result : goal.invariant_of-result
invariant_of-result c =
    record {
      good = c.scenes_without_a_fault_are_good.ensures.good c.args.s c.in_ok-index.ensures.found c.in_range.ensures;
      index_of = c.in_ok-index.ensures.index;
      numbering =
          subst
          (λ (levels : List LevelRecord). IsNumbering levels (length levels) c.in_ok-numbers.numbers.firsts.items c.in_ok-numbers.numbers.owners.items)
          (c.items.ensures ∙ ap (λ (s : SceneRecord). s.levels) c.s.view_is) c.in_ok-numbers.ensures.numbering;
      few = c.in_ok-numbers.ensures.few;
    }
