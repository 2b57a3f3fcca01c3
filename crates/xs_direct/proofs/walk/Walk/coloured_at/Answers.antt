use Rattle.std.proofs.Common.{ℕ, FitsSigned, w32, Some, None, ◌∙◌, rules}
use Rattle.std.proofs.lemmas.Int.{to_z-of_z}
use Rattle.xs_pixel.specs.Channels.{Channels, clear}
use Rattle.xs_cm32.specs.Word.{colour_under}
use Rattle.xs_rawfile.specs.Held.{plain_picture, words_of}
use Rattle.xs_direct.specs.Values.{style_in}
use Rattle.xs_direct.proofs.DrawingLemmas.{word-made}
use Rattle.xs_direct.proofs.walk.Walk.coloured_at.Goals as goal

pub returns-in-Some : goal.returns-in-Some
returns-in-Some g c =
    let colour : ℕ → Channels = colour_under (style_in c.args.self.now c.args.palette) in
    let fx : FitsSigned w32 c.p.inside.x = search rules in
    let fy : FitsSigned w32 c.p.inside.y = search rules in
    let x = to_z-of_z w32 c.p.inside.x fx in
    let y = to_z-of_z w32 c.p.inside.y fy in
    c.word_colour.ensures
    ∙ rw (← c.p.view_is)
    (word-made (plain_picture c.args.drawing.now) colour clear (words_of c.args.drawing.now) c.p.inside.x c.p.inside.y (Some c.in-Some.word)
    (rw (x, y) at c.in-Some.ensures))

pub returns-in-None : goal.returns-in-None
returns-in-None g c =
    let colour : ℕ → Channels = colour_under (style_in c.args.self.now c.args.palette) in
    let fx : FitsSigned w32 c.p.inside.x = search rules in
    let fy : FitsSigned w32 c.p.inside.y = search rules in
    let x = to_z-of_z w32 c.p.inside.x fx in
    let y = to_z-of_z w32 c.p.inside.y fy in
    rw (← c.p.view_is)
    (word-made (plain_picture c.args.drawing.now) colour clear (words_of c.args.drawing.now) c.p.inside.x c.p.inside.y None (rw (x, y) at c.in-None.ensures))
