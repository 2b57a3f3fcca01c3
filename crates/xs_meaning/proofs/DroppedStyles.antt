-- What filters make of a style
use Rattle.std.proofs.Common.{ℕ, ◌≡◌, ◌<◌, ◌==◌, ◌||◌, ◌&&◌, not, nat_lt, refl, ap, ◌∙◌, Bool, true, false, cond, List, slice_get, lt-ltb}
use Rattle.std.specs.Option.{option_map_or}
use Rattle.xs_pixel.specs.Channels.{clear}
use Rattle.xs_scene.specs.Records.{ColoursRecord}
use Rattle.xs_meaning.specs.Palettes.{Dropped, deleting, keeping, style_at, pixel_of, keyed, key_at}
use Rattle.xs_base.specs.Listed.{is_listed}
use Rattle.std.proofs.Math.Bool.{or-false, and-false}
use Rattle.xs_meaning.proofs.UnusedStyles.{style_at-dropped}

or_true : (b : Bool) → (b || true) ≡ true
or_true true = refl
or_true false = refl

style_at-clear : (c : ColoursRecord) (row style : ℕ) (f : Dropped) → f style ≡ true → style_at c row f style ≡ clear
unfolding style_at
style_at-clear c row style f dropped =
    ap
    (λ b.
    cond b clear
    (option_map_or (λ s. pixel_of (keyed (key_at c row style) s)) (slice_get c.styles style) clear))
    (ap (λ b. style == 0 || b) dropped ∙ or_true (style == 0))

pub deleted : (c : ColoursRecord) (row style : ℕ) (styles : List ℕ) (f : Dropped) → is_listed styles style ≡ true
    → style_at c row (deleting styles f) style ≡ clear
deleted c row style styles f listed =
    style_at-clear c row style (deleting styles f) (ap (λ b. f style || b) listed ∙ or_true (f style))

pub not_deleted : (c : ColoursRecord) (row style : ℕ) (styles : List ℕ) (f : Dropped) → is_listed styles style ≡ false
    → style_at c row (deleting styles f) style ≡ style_at c row f style
not_deleted c row style styles f unlisted =
    style_at-dropped c row (deleting styles f) f style (ap (λ b. f style || b) unlisted ∙ or-false (f style))

pub kept : (c : ColoursRecord) (row style : ℕ) (styles : List ℕ) (f : Dropped) → is_listed styles style ≡ true
    → style_at c row (keeping styles f) style ≡ style_at c row f style
kept c row style styles f listed =
    style_at-dropped c row (keeping styles f) f style
    (ap (λ b. f style || (nat_lt style 4096 && not b)) listed
    ∙ (ap (λ b. f style || b) (and-false (nat_lt style 4096)) ∙ or-false (f style)))

pub not_kept : (c : ColoursRecord) (row style : ℕ) (styles : List ℕ) (f : Dropped) → style < 4096 → is_listed styles style ≡ false
    → style_at c row (keeping styles f) style ≡ clear
not_kept c row style styles f below unlisted =
    style_at-clear c row style (keeping styles f)
    (ap (λ b. f style || (nat_lt style 4096 && not b)) unlisted
    ∙ (ap (λ b. f style || (b && true)) (lt-ltb style 4096 below) ∙ or_true (f style)))
