use Rattle.std.proofs.Common.{◌≡◌, ◌<◌, ◌∙◌, sym, subst, length, ℕ}
use Rattle.std.proofs.lemmas.Option.{same_Some}
use Rattle.xs_levels.proofs.Taking.{taken}
use Rattle.xs_levels.proofs.stock.Stock.hold.Goals as goal

pub returns : goal.returns
returns g c =
    let counted = rw (← c.self.view_is) at c.requires.counted in
    let number = rw (← c.self.view_is) at c.requires.number in
    let free = rw (← c.self.view_is) at c.requires.free in
    let last = rw (← c.self.view_is) at c.requires.last in
    let total = rw (← c.self.view_is) at c.requires.total in
    let few = rw (← c.self.view_is, total) at c.requires.few in
    let same = same_Some c.in-Some.last last.0 (c.in-Some.ensures ∙ last.1) in
    let inside = subst (λ (n : ℕ). n < length c.self.inside.lasts.lists) (sym same) last.2 in
    rw (← c.self.view_is, c.set.ensures, c.push_back.ensures, total)
    (taken c.args.p.now _ c.args.d c.args.drawing c.args.palette c.in-Some.last counted number free inside (sym c.in-Some.ensures) few)
