use Rattle.std.proofs.Common.{ℕ, List, All, sym, subst}
use Rattle.xs_build.specs.declared.state.State.{State}
use Rattle.xs_build.specs.States.{StandsFor}
use Rattle.xs_build.proofs.Remembered.{remembered}
use Rattle.xs_build.proofs.build.Build.remember.Goals as goal

pub returns-in-Ok-clause-sound : goal.returns-in-Ok-clause-sound
returns-in-Ok-clause-sound c = λ s names sound here.
    let b = c.args.self.now in
    record {
      extents = sound.extents;
      stays = sound.stays;
      states =
          subst (λ (es : List (State × ℕ)). All (λ e. StandsFor s names b.sets.keys b.entered e.0 e.1) es)
          (sym c.in-Ok.ensures.entries)
          (remembered s names b.sets.keys b.entered b.states.entries c.args.state c.args.n sound.states here);
    }
