use Rattle.std.proofs.Common.{ℕ, Option, Some, None, List, map, w32, get_or, refl, sym, ap, ◌∙◌}
use Rattle.std.proofs.lemmas.Int.{to_z-of_z}
use Rattle.xs_rawfile.specs.Held.{plain_picture, words_of}
use Rattle.xs_rawfile.proofs.Boxes.{item_inside, item_outside}
use Rattle.xs_rawfile.proofs.drawing.Drawing.word.Goals as goal

pub returns-in-Some : goal.returns-in-Some
returns-in-Some c =
    let p = plain_picture c.args.self.now in
    let items : List (Option ℕ) = map (λ w. Some w) (words_of c.args.self.now) in
    let x = to_z-of_z w32 c.args.x c.ranges.x in
    let y = to_z-of_z w32 c.args.y c.ranges.y in
    let item = item_inside p items None c.args.x c.args.y (rw (x, y) at (c.in-Some.ensures.within.0 refl)) in
    c.word_in.ensures ∙ (ap (λ k. get_or items k None) (rw (x, y) at c.in-Some.ensures.inside) ∙ sym item)

pub returns-in-None : goal.returns-in-None
returns-in-None c =
    let p = plain_picture c.args.self.now in
    let items : List (Option ℕ) = map (λ w. Some w) (words_of c.args.self.now) in
    let x = to_z-of_z w32 c.args.x c.ranges.x in
    let y = to_z-of_z w32 c.args.y c.ranges.y in
    sym (item_outside p items None c.args.x c.args.y (rw (x, y) at c.in-None.ensures.within.1))
