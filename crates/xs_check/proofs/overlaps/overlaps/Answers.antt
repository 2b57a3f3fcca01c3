use Rattle.std.proofs.Common.{List, ap, sym, subst, ◌∙◌}
use Rattle.xs_scene.specs.Records.{SceneRecord, LevelRecord}
use Rattle.xs_check.specs.Finding.{Finding, Finds}
use Rattle.xs_check.specs.Passes.{file_fault}
use Rattle.xs_check.proofs.IndexApart.{index_in_order, overlaps_are_files}
use Rattle.xs_check.proofs.overlaps.overlaps.Goals as goal

pub index_apart-requires : goal.index_apart-requires
index_apart-requires c = index_in_order c.args.scene.now c.args.index.now c.requires

pub returns-then-index_apart : goal.returns-then-index_apart
returns-then-index_apart c =
    subst (λ (found : Finding). Finds c.files_apart.result found)
    (ap (λ (levels : List LevelRecord). file_fault levels) (c.items.ensures ∙ ap (λ (s : SceneRecord). s.levels) c.scene.view_is)
    ∙ sym (overlaps_are_files c.args.scene.now c.args.index.now c.requires (c.index_apart.ensures.0 c.if-index_apart.true)))
    c.files_apart.ensures
