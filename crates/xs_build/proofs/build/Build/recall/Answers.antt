use Rattle.std.proofs.Common.{ℕ, Option, IfSome, sym, ◌∙◌, subst}
use Rattle.xs_build.specs.States.{StandsFor}
use Rattle.xs_build.proofs.Remembered.{recalled}
use Rattle.xs_build.proofs.build.Build.recall.Goals as goal

pub returns : goal.returns
returns c = λ s names sound.
    let b = c.args.self.now in
    subst (λ (o : Option ℕ). IfSome o (StandsFor s names b.sets.keys b.entered c.args.state))
    (sym (c.copied.ensures ∙ c.get.ensures.value))
    (recalled s names b.sets.keys b.entered b.states.entries c.args.state sound.states)
