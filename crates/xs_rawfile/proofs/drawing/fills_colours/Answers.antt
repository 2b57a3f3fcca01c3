use Rattle.std.proofs.Common.{sym, rules}
use Rattle.xs_rawfile.proofs.Scanning.{bytes_from, fills_from_none, none_from_fills}
use Rattle.xs_rawfile.proofs.drawing.fills_colours.Goals as goal

pub returns-in-Some : goal.returns-in-Some
returns-in-Some c = (λ no. absurd cc, λ each. let none = none_from_fills 0 _ each in absurd (cc (c.in-Some.ensures.first, none)))

pub returns-in-None : goal.returns-in-None
returns-in-None c = (λ yes. fills_from_none 0 _ (bytes_from 0 _ c.type_inv.bytes) (sym c.in-None.ensures.first), λ each. search rules)
