use Rattle.std.proofs.Common.{◌≡◌, ℕ, ◌<◌}
use Rattle.xs_palette.specs.Styles.{style_of}
use Rattle.xs_build.proofs.palette.have_one_tint.Given as goal

abbrev pub invariant-loop-id : goal.invariant-loop-id
invariant-loop-id l = (k : ℕ) → k < l.id → style_of l.a k ≡ style_of l.b k
