use Rattle.std.proofs.Common.{◌≡◌, ℕ, Bool, Option, List, All, refl, sym, ap, ◌∙◌, subst}
use Rattle.std.proofs.Math.Path.{fun_ext}
use Rattle.std.proofs.lemmas.List.Elements.{All-nil}
use Rattle.xs_step.specs.declared.spot.Spot.{Spot}
use Rattle.xs_stays.specs.Sets.{styles_in}
use Rattle.xs_extent.specs.Extent.{extent_at}
use Rattle.xs_build.specs.declared.state.State.{State}
use Rattle.xs_build.specs.States.{dropped_in, StandsFor}
use Rattle.xs_build.proofs.build.Build.begin.Goals as goal

pub returns-clause-sound : goal.returns-clause-sound
returns-clause-sound c = λ s names.
    let P : Spot × Option ℕ → Type 0 = λ e. e.1 ≡ extent_at s e.0 in
    let Q : State × ℕ → Type 0 = λ e. StandsFor s names c.in_ok-sets.sets.keys c.args.self.now.entered e.0 e.1 in
    record {
      extents = subst (All P) (sym c.new-2.ensures) (All-nil P);
      stays = c.new-3.ensures s;
      states = subst (All Q) (sym c.new.ensures.empty) (All-nil Q);
    }

pub returns-clause-none : goal.returns-clause-none
returns-clause-none c =
    ap (λ (sets : List (List Bool)). dropped_in sets 0) c.in_ok-sets.ensures
    ∙ ap styles_in c.empty.ensures ∙ fun_ext (λ style. refl)
