use Rattle.std.proofs.Common.{subst, Option}
use Rattle.xs_pixel.specs.Picture.{Pictures}
use Rattle.xs_rawfile.specs.Held.{IsHeld}
use Rattle.xs_top.proofs.HeldOver.{bytes_over}
use Rattle.xs_top.proofs.render.tells_what_is_held_over.Goals as goal

pub returns : goal.returns
returns g c = λ files told.
    let stock = c.args.stock.now in
    let held = subst (λ (p : Option Pictures). IsHeld p stock.held) told c.drawings-drawings.ensures.pictures in
    bytes_over files c.args.good.now c.args.p.now c.args.s stock c.requires.stock c.requires.loaded c.requires.ended held
    (c.a_scene_tells_its_drawings.ensures.files c.args.good.now)
