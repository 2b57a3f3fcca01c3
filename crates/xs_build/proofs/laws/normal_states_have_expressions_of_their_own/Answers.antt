use Rattle.std.proofs.Common.{◌≡◌, sym, ap, ◌∙◌, subst}
use Rattle.xs_pixel.specs.Points.{Point}
use Rattle.xs_meaning.specs.Expressions.{by_offsets}
use Rattle.xs_step.specs.declared.spot.Spot.{Spot}
use Rattle.xs_step.specs.Readings.{answer_at}
use Rattle.xs_stays.specs.Stays.{stay_at, stay_or, IsNormal}
use Rattle.xs_build.specs.States.{dropped_in, offset_of}
use Rattle.xs_build.proofs.laws.normal_states_have_expressions_of_their_own.Goals as goal

pub returns : goal.returns
returns c = λ s sets t u apart t_within u_within spot growth first second same.
    let f = dropped_in sets t.dropped in
    let g = dropped_in sets u.dropped in
    let second : IsNormal (stay_or (stay_at s t.spot)) g (offset_of u) =
    subst (λ (p : Spot). IsNormal (stay_or (stay_at s p)) g (offset_of u)) (sym spot) second in
    let same : answer_at (by_offsets s) s t.spot f (offset_of t) ≡ answer_at (by_offsets s) s t.spot g (offset_of u) =
    same ∙ ap (λ (p : Spot). answer_at (by_offsets s) s p g (offset_of u)) (sym spot) in
    let one = c.what_stays_tells_expressions_apart.ensures.normal s t.spot f g (offset_of t) (offset_of u) first second same in
    let dropped : t.dropped ≡ u.dropped = apart t.dropped u.dropped t_within u_within one.0 in
    let across : t.x ≡ u.x = ap (λ (p : Point). p.x) one.1 in
    let up : t.y ≡ u.y = ap (λ (p : Point). p.y) one.1 in
    λ i. record { spot = spot i; x = across i; y = up i; dropped = dropped i; growth = growth i }
