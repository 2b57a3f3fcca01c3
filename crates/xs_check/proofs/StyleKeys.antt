-- The pixel of a style of a palette
use Rattle.std.proofs.Common.{◌≡◌, ℕ, Bool, true, false, ◌||◌, cond, eqb, slice_get, Some, None, refl, sym, ap, ◌∙◌, subst}
use Rattle.std.specs.Option.{option_map_or}
use Rattle.std.proofs.lemmas.Bool.{ne_eqb}
use Rattle.xs_pixel.specs.Channels.{clear}
use Rattle.xs_pixel.specs.declared.style.Style.{Style}
use Rattle.xs_scene.specs.Records.{ColoursRecord}
use Rattle.xs_meaning.specs.Palettes.{style_at, key_at, keyed, pixel_of, none_dropped}

same : (b : Bool) → clear ≡ cond b clear clear
same true = refl
same false = refl

pub style_at-zero : (c : ColoursRecord) (row style : ℕ) → style ≡ 0 → clear ≡ style_at c row none_dropped style
unfolding style_at
style_at-zero c row style zero = subst (λ (n : ℕ). clear ≡ style_at c row none_dropped n) (sym zero) refl

pub style_at-lacks : (c : ColoursRecord) (row style : ℕ) → slice_get c.styles style ≡ None → clear ≡ style_at c row none_dropped style
unfolding style_at
style_at-lacks c row style none =
    same (eqb style 0 || false)
    ∙ sym (ap (λ o. cond (eqb style 0 || false) clear (option_map_or (λ s. pixel_of (keyed (key_at c row style) s)) o clear)) none)

pub style_at-has :
    (c : ColoursRecord) (row style : ℕ) (written : Style) → (style ≡ 0 → ⊥) → slice_get c.styles style ≡ Some written
    → pixel_of (keyed (key_at c row style) written) ≡ style_at c row none_dropped style
unfolding style_at
style_at-has c row style written positive is =
    sym (ap (λ b. cond (b || false) clear (option_map_or (λ s. pixel_of (keyed (key_at c row style) s)) (slice_get c.styles style) clear))
    (ne_eqb style 0 positive)
    ∙ ap (λ o. option_map_or (λ s. pixel_of (keyed (key_at c row style) s)) o clear) is)
