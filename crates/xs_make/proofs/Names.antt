-- The names of the drawings
use Rattle.std.proofs.Common.{◌≡◌, ℕ, ◌<◌, true, refl}
use Rattle.std.proofs.lemmas.Bool.{agree_below_at}
use Rattle.std.specs.Fmt.{digits}
use Rattle.xs_scene.specs.Names.{is_name}
use Rattle.xs_make.specs.Files.{background_name, cel_name}

pub background_has_a_name : is_name background_name ≡ true
unfolding is_name
background_has_a_name = refl

pub cels_have_names : (m : ℕ) → m < 12 → is_name (cel_name m) ≡ true
unfolding is_name digits
cels_have_names m few = agree_below_at (λ k. is_name (cel_name k)) (λ k. true) 12 m refl few
