use Rattle.xs_direct.proofs.HeldLemmas.{told-frame}
use Rattle.xs_direct.proofs.frame.held_drawings_make_the_frame.Goals as goal

pub returns : goal.returns
returns g c = λ pictures tells pixels are.
    told-frame c.args.s.now g.K.Film.pictures c.args.drawings.now pictures c.args.row c.only_own_drawings_count.ensures c.scene.ensures.good.ranges
    c.hold_their_pictures.ensures tells pixels are
