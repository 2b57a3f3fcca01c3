use Rattle.std.proofs.Common.{◌≡◌, ◌-◌, sym, ◌∙◌, rules}
use Rattle.xs_lines.proofs.PartLemmas.{same_tail}
use Rattle.xs_lines.proofs.lines.put_next_tail.Goals as goal
use Rattle.xs_lines.proofs.lines.put_next_tail.Goals.{then-eq+then-readers, else-eq}

pub returns-clause-text : goal.returns-clause-text
returns-clause-text c =
    elim c.if-eq.branch [
      | then-eq+then-readers w ↦
          let rects : c.rect.result ≡ c.rect-2.result = search rules in
          w.line-is ∙ w.keep_last.ensures.text ∙ c.requires.tail.ends
          ∙ same_tail c.args.p.now (c.args.k - 1) c.args.k (sym c.rect-2.ensures ∙ sym rects ∙ c.rect.ensures)
          (sym w.readers-then-eq.ensures ∙ sym w.if-readers.true ∙ w.readers.ensures)
      | else-eq w ↦ w.line-is ∙ w.put_tail.ensures.text
    ]
