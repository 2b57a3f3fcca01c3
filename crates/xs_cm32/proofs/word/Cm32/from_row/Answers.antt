use Rattle.std.proofs.Common.{◌≡◌, ◌*◌, [], ◌∷◌, get_or, refl}
use Rattle.std.specs.Simd.Lanes.{chunk}
use Rattle.xs_cm32.specs.WordRows.{words}
use Rattle.xs_cm32.proofs.WordRows.{word_of_chunk}
use Rattle.xs_cm32.proofs.word.Cm32.from_row.Goals as goal

pub returns : goal.returns
returns c =
    let row = c.args.row.now in
    let place = c.args.place in
    let one : words (chunk (4 * place) 4 row) ≡ c.word_at.result ∷ [] = c.word_at.ensures in
    let at : words (chunk (4 * place) 4 row) ≡ get_or (words row) place 0 ∷ [] = word_of_chunk (4 * place) place row refl c.requires in
    cc
