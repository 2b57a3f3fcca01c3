use Rattle.std.proofs.Common.{◌≡◌, ◌≤◌, ◌/◌, not, length, refl, arith, sym, ap, ◌∙◌}
use Rattle.std.proofs.lemmas.Bool.{false≢true}
use Rattle.xs_build.proofs.OneTint.{styles-from_tint, tint-from_styles, same_test}
use Rattle.xs_build.proofs.palette.have_one_tint.Goals as goal

pub returns-then-ne : goal.returns-then-ne
returns-then-ne c = let law = c.clear_pixels_at_the_end_tell_nothing.ensures in (
  λ passes. absurd (false≢true passes),
  λ same.
      let styles : c.style.result ≡ c.style-in-loop-id.result =
      c.style.ensures ∙ styles-from_tint law.pixels law.one c.args.a.now c.args.b.now same c.loop-id.id ∙ sym c.style-in-loop-id.ensures
      in
      absurd (false≢true (sym (ap not (same_test c.style.result c.style-in-loop-id.result styles)) ∙ sym c.ne.ensures ∙ c.if-ne.true)),
)

pub returns : goal.returns
returns c =
    let law = c.clear_pixels_at_the_end_tell_nothing.ensures in
    let count = c.max-count.result / 4 in
    let whole_a = c.table.ensures.whole in
    let whole_b = c.table-2.ensures.whole in
    let a_within : length c.args.a.now ≤ count = omega (arith, whole_a, whole_b, c.max-count.ensures) in
    let b_within : length c.args.b.now ≤ count = omega (arith, whole_a, whole_b, c.max-count.ensures) in (
      λ passes. tint-from_styles law.pixels law.one c.args.a.now c.args.b.now count a_within b_within (λ id lt. c.loop-id.invariant id (omega arith)),
      λ same. refl,
    )
