use Rattle.std.proofs.Common.{◌≡◌, ◌<◌, ℕ, true, false, None, length, get_or, sym, ◌∙◌, refl, subst, arith}
use Rattle.std.proofs.lemmas.List.{get_or_default, take_all}
use Rattle.xs_rawfile.specs.Held.{drawing_in}
use Rattle.xs_direct.specs.Pictures.{AreHeld}
use Rattle.xs_direct.proofs.HeldLemmas.{held-more}
use Rattle.xs_direct.proofs.held.are_held.Goals as goal

pub loop-number-preserved : goal.loop-number-preserved
loop-number-preserved g c =
    let h = c.args.drawings.now in
    let ds = c.args.numbers.now in
    let i = c.loop-number.number-index in
    let d : ℕ = get_or ds i 0 in
    let within : i < length ds = omega arith in
    let some : drawing_in h d ≡ None → ⊥ =
    λ none. let e : true ≡ false = sym c.if-is_none.ensures ∙ c.get.ensures.none.1 none in cc
    in
    held-more h ds i d within (get_or_default ds i 0 d within) some c.loop-number.invariant

pub returns : goal.returns
returns g c = (
  λ t. subst (AreHeld c.args.drawings.now) (take_all c.loop-number.number-index c.args.numbers.now (omega arith)) c.loop-number.invariant,
  λ all. refl,
)
