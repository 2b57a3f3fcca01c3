use Rattle.std.proofs.Common.{◌∷◌, [], length, ap, ◌∙◌}
use Rattle.xs_lines.proofs.PartLemmas.{ends_with_tail, line_of_parts}
use Rattle.xs_lines.proofs.lines.put_next.Goals as goal

pub returns-clause-text : goal.returns-clause-text
returns-clause-text c =
    c.put_text.ensures.text
    ∙ ap (λ text. 10 ∷ text)
    (line_of_parts c.args.p.now c.args.k _ _ c.put_head.ensures.text c.put_next_tail-tail.ensures.text)

pub returns-clause-tail : goal.returns-clause-tail
returns-clause-tail c =
    ends_with_tail c.args.p.now c.args.k (10 ∷ []) _ _ (returns-clause-text c)
    (c.put_next_tail-tail.ensures.len ∙ ap length c.put_next_tail-tail.ensures.text)
