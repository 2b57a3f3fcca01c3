use Rattle.std.proofs.Common.{◌≡◌, [], Some, ap, ◌∙◌, rules}
use Rattle.xs_rawfile.specs.Held.{Held}
use Rattle.xs_section_tests.proofs.ToldLemmas.{told_under}
use Rattle.xs_section_tests.proofs.told.hold.Goals as goal

pub set-requires-clause-film : goal.set-requires-clause-film
set-requires-clause-film g c = λ told is.
    let none : c.of.result ≡ [] = search rules in
    told_under g.K.Film.pictures told c.in_ok-drawings.drawings 0 c.args.drawing
    (ap (λ (h : Held). h.palettes) c.in_ok-drawings.ensures ∙ none)
    c.requires.told is
