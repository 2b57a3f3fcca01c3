-- What one more filter drops
use Rattle.std.proofs.Common.{ℕ, ◌≡◌, true, false, List, Bor, eqb, refl, rules}
use Rattle.std.proofs.Math.Bool.{or-true}
use Rattle.xs_pixel.specs.Channels.{clear}
use Rattle.xs_scene.specs.Records.{ColoursRecord}
use Rattle.xs_meaning.specs.Palettes.{Dropped, none_dropped, keeping, deleting, style_at}
use Rattle.xs_direct.specs.declared.filters.Filters.{Filters, Open, Keep, Delete, the_lemmas}
use Rattle.xs_direct.specs.Filters.{dropped_of}

pub dropped_of-Open : dropped_of Open ≡ none_dropped
dropped_of-Open = search (rules, the_lemmas)

pub dropped_of-Keep : (styles : Bor (List ℕ)) (outer : Bor Filters) → dropped_of (Keep styles outer) ≡ keeping styles.now (dropped_of outer.now)
dropped_of-Keep styles outer = search (rules, the_lemmas)

pub dropped_of-Delete : (styles : Bor (List ℕ)) (outer : Bor Filters) → dropped_of (Delete styles outer) ≡ deleting styles.now (dropped_of outer.now)
dropped_of-Delete styles outer = search (rules, the_lemmas)

-- a dropped style is clear, and another one is as without filters
pub style_at-dropped : (c : ColoursRecord) (row : ℕ) (f : Dropped) (style : ℕ) → f style ≡ true → clear ≡ style_at c row f style
unfolding style_at
style_at-dropped c row f style dropped = rw (dropped, or-true (eqb style 0)) refl

pub style_at-kept : (c : ColoursRecord) (row : ℕ) (f : Dropped) (style : ℕ) → f style ≡ false → style_at c row none_dropped style ≡ style_at c row f style
unfolding style_at
style_at-kept c row f style kept = rw kept refl
