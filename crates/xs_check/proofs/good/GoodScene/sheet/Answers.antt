use Rattle.std.proofs.Common.{◌≡◌, ◌<◌, ℕ, List, length, get_or, sym, ap, ◌∙◌, subst, arith}
use Rattle.std.proofs.lemmas.List.{get_or_default}
use Rattle.xs_scene.specs.declared.node.Ref.TheVariants.{Node as ToNode}
use Rattle.xs_scene.specs.Records.{SceneRecord, SheetRecord}
use Rattle.xs_meaning.specs.Ends.{NodesEnd}
use Rattle.xs_meaning.specs.Walk.{no_sheet, sheet_at}
use Rattle.xs_check.proofs.good.GoodScene.sheet.Goals as goal

pub returns-clause-ends : goal.returns-clause-ends
returns-clause-ends c =
    let k = c.index-items-k.result in
    let scene = c.self.inside.scene in
    let sheets : c.items.result.now ≡ scene.sheets = c.items.ensures ∙ ap (λ (s : SceneRecord). s.sheets) c.scene.view_is in
    let same : c.items.result.now ≡ c.args.self.now.sheets = sheets ∙ ap (λ (s : SceneRecord). s.sheets) c.self.view_is in
    let below : c.args.k < length c.items.result.now = omega (arith, c.requires, ap (λ (xs : List SheetRecord). length xs) same) in
    let is : k ≡ sheet_at scene.sheets c.args.k =
    c.index-items-k.is ∙ get_or_default c.items.result.now c.args.k k no_sheet below ∙ ap (λ (xs : List SheetRecord). get_or xs c.args.k no_sheet) sheets
    in
    subst (λ (k : SheetRecord). (n : ℕ) → n < length k.nodes → NodesEnd k (length k.nodes) (ToNode n)) (sym is)
    (c.self.invariant.good.ends.nodes c.args.k)
