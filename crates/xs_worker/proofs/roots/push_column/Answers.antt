use Rattle.std.proofs.Common.{◌++◌, ◌∷◌, [], List, ℕ, sym, ap, ◌∙◌, append_assoc}
use Rattle.xs_worker.specs.Sections.{column}
use Rattle.xs_worker.proofs.Columns.{column_more}
use Rattle.xs_worker.proofs.roots.push_column.Goals as goal

pub loop-row-preserved : goal.loop-row-preserved
loop-row-preserved c =
    let before = c.args.targets.now.items in
    let so_far = column c.args.p.now c.args.tile c.args.first c.loop-row.row in
    c.in_ok-push.ensures.items ∙ ap (λ (l : List ℕ). l ++ c.root.result ∷ []) c.loop-row.invariant ∙ append_assoc before so_far (c.root.result ∷ [])
    ∙ ap (λ (k : ℕ). before ++ (so_far ++ k ∷ [])) c.root.ensures
    ∙ ap (λ (l : List ℕ). before ++ l) (sym (column_more c.args.p.now c.args.tile c.args.first c.loop-row.row))
