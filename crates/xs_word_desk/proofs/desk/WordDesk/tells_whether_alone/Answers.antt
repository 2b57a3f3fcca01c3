use Rattle.std.proofs.Common.{ℕ, List, length, ap}
use Rattle.xs_word_desk.specs.DeskLaw.{solo_is}
use Rattle.xs_word_desk.proofs.PassLemmas.{solo_where_none_apart}
use Rattle.xs_word_desk.proofs.desk.WordDesk.tells_whether_alone.Goals as goal

pub returns : goal.returns
returns g c = λ chief.
    let v = c.args.self.now.seat.me.0 in
    (λ solo. ap (λ (l : List ℕ). length l) (solo_is v solo).2, solo_where_none_apart v c.args.self.now.keeps.rests.live chief)
