use Rattle.std.proofs.Common.{Some, None, sym, ap, ◌∙◌}
use Rattle.xs_rawfile.proofs.Boxes.{mapped_word}
use Rattle.xs_rawfile.proofs.drawing.Drawing.word_in.Goals as goal

pub returns-in-Cm32 : goal.returns-in-Cm32
returns-in-Cm32 c =
    rw (← c.self.view_is, c.in-Cm32.is)
    (ap (λ w. Some w) (rw c.items.ensures at c.from_row.ensures)
    ∙ sym (mapped_word (λ w. Some w) None c.args.at c.self.inside.bytes (rw (← c.self.view_is) at c.requires)))
