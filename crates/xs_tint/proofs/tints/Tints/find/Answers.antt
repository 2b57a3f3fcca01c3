use Rattle.std.proofs.Common.{◌≡◌, Some, List, Contains, slice_get, sym, subst}
use Rattle.xs_pixel.specs.Channels.{Channels}
use Rattle.xs_tint.proofs.KeyedTints.{found, absent, tint_exact, tint_same}
use Rattle.xs_tint.proofs.tints.Tints.find.Goals as goal

pub returns-in-Some-clause-found : goal.returns-in-Some-clause-found
returns-in-Some-clause-found c =
    subst (λ (xs : List (List Channels)). slice_get xs c.in-Some.number ≡ Some c.args.tint.now.items) c.self.view_is
    (found _ (λ t. t.items) tint_exact tint_same c.self.inside.palettes.entries c.args.tint.now c.in-Some.number c.self.invariant.0
    c.in-Some.ensures.found c.in-Some.ensures.value)

pub returns-in-None-clause-found : goal.returns-in-None-clause-found
returns-in-None-clause-found c = λ at.
    absent _ (λ t. t.items) tint_exact tint_same c.self.inside.palettes.entries c.args.tint.now c.self.invariant.0 c.in-None.ensures.found
    (subst (λ (xs : List (List Channels)). Contains xs c.args.tint.now.items) (sym c.self.view_is) at)
