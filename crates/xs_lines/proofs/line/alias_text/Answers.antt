use Rattle.std.proofs.Common.{◌∙◌}
use Rattle.xs_lines.proofs.PartLemmas.{line_of_parts}
use Rattle.xs_lines.proofs.line.alias_text.Goals as goal

pub returns : goal.returns
returns c =
    c.in_ok-text.ensures.items ∙ c.bytes.ensures
    ∙ line_of_parts c.args.p.now c.args.k _ _ c.put_head.ensures.text c.put_tail.ensures.text
