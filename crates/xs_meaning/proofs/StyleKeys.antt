-- The key that sets a style at a row, and the pixel that it gives
use Rattle.std.proofs.Common.{ℕ, zero, suc, ◌≡◌, ◌≤◌, ◌<◌, ◌&&◌, ◌||◌, ◌==◌, refl, ap, ◌∙◌, Bool, true, false, cond, eqb, leb, Option, Some, None, List, [], ◌∷◌, All, IfSome, Contains, MatchOption, filter, slice_get, get_or, length, leb-true, ⊎_elim, arith}
use Rattle.std.proofs.lemmas.Bool.{cases_lt, le-leb, and_from, eq-eqb, eqb-true, and_parts}
use Rattle.std.proofs.lemmas.Bool.Decides.{nat_tests}
use Rattle.std.proofs.lemmas.List.Elements.{All-filter, All-weaker, All-contains_itself, filter_passes}
use Rattle.xs_pixel.specs.Channels.{Channels, clear}
use Rattle.xs_pixel.specs.declared.style.Style.{Style}
use Rattle.xs_palette.specs.Styles.{written}
use Rattle.xs_scene.specs.Records.{ColoursRecord, StyleKeyRecord}
use Rattle.xs_meaning.specs.Chosen.{IsStyleKeyInForce}
use Rattle.xs_meaning.specs.Keys.{latest}
use Rattle.xs_meaning.specs.Palettes.{Dropped, key_at, keyed_pixel, pixel_of, style_at, as_written}
use Rattle.xs_meaning.proofs.KeyLemmas.{latest-has, latest-greatest, latest-none, filter-All, filter-none}

abbrev sets : ℕ → ℕ → StyleKeyRecord → Bool
sets style row k = eqb k.style style && leb k.row row

set_by : (style row : ℕ) (k : StyleKeyRecord) → sets style row k ≡ true → (k.style ≡ style) × (k.row ≤ row)
set_by style row k is =
    let both = and_parts (eqb k.style style) (leb k.row row) is in (eqb-true _ _ both.0, leb-true _ _ both.1)

sets_from : (style row : ℕ) (k : StyleKeyRecord) → k.style ≡ style → k.row ≤ row → sets style row k ≡ true
sets_from style row k same begun = and_from _ _ (eq-eqb k.style style same) (le-leb k.row row begun)

pub key_at-is : (c : ColoursRecord) (row style : ℕ)
    → MatchOption (key_at c row style) (All (λ k. k.style ≡ style → row < k.row) c.keys) (IsStyleKeyInForce c.keys row style)
key_at-is c row style =
    chosen (latest (λ k. k.row) (filter (sets style row) c.keys)) refl
    (latest-has (λ k. Contains c.keys k × (sets style row k ≡ true)) (λ k. k.row) (filter (sets style row) c.keys)
    (λ i d lt. (
      All-filter (sets style row) (Contains c.keys) c.keys (All-contains_itself c.keys) i d lt,
      filter_passes (sets style row) c.keys i d lt,
    )))
    (latest-greatest (λ k. k.row) (filter (sets style row) c.keys))
  where
    chosen : (a : Option StyleKeyRecord) → latest (λ k. k.row) (filter (sets style row) c.keys) ≡ a
        → IfSome a (λ k. Contains c.keys k × (sets style row k ≡ true))
        → IfSome a (λ a. All (λ k. k.row ≤ a.row) (filter (sets style row) c.keys))
        → MatchOption a (All (λ k. k.style ≡ style → row < k.row) c.keys) (IsStyleKeyInForce c.keys row style)
    chosen None is among greatest =
        All-weaker (λ k. sets style row k ≡ true → ⊥) (λ k. k.style ≡ style → row < k.row)
        (λ k no same. ⊎_elim (λ lt. lt) (λ le. absurd (no (sets_from style row k same le))) (cases_lt row k.row)) c.keys
        (filter-none (sets style row) c.keys (latest-none (λ k. k.row) (filter (sets style row) c.keys) is))
    chosen (Some a) is among greatest =
        let by = set_by style row a among.1 in
        record {
          among = among.0;
          of_style = by.0;
          begun = by.1;
          last =
              All-weaker (λ k. sets style row k ≡ true → k.row ≤ a.row) (λ k. k.style ≡ style → k.row ≤ row → k.row ≤ a.row)
              (λ k below same le. below (sets_from style row k same le)) c.keys
              (filter-All (λ k. k.row ≤ a.row) (sets style row) c.keys greatest);
        }

-- the pixel of a style that is not dropped, by its key and by what is written
style_at-undropped : (c : ColoursRecord) (row style : ℕ) (f : Dropped) (key : Option StyleKeyRecord) → key_at c row style ≡ key → f style ≡ false
    → style_at c row f style ≡ cond (style == 0 || false) clear (keyed_pixel key (slice_get c.styles style))
unfolding style_at
style_at-undropped c row style f key is not =
    ap (λ b. cond (style == 0 || b) clear (keyed_pixel (key_at c row style) (slice_get c.styles style))) not
    ∙ ap (λ k. cond (style == 0 || false) clear (keyed_pixel k (slice_get c.styles style))) is

keyed_pixel-set :
    (styles : List Style) (style : ℕ) (key : StyleKeyRecord) → style < length styles
    → keyed_pixel (Some key) (slice_get styles style) ≡ pixel_of key.to
keyed_pixel-set [] style key lt = absurd (omega arith)
keyed_pixel-set (s ∷ styles) zero key lt = refl
keyed_pixel-set (s ∷ styles) (suc style) key lt = keyed_pixel-set styles style key (omega arith)

keyed_pixel-written : (styles : List Style) (style : ℕ) → keyed_pixel None (slice_get styles style) ≡ get_or (written styles) style clear
keyed_pixel-written [] style = refl
keyed_pixel-written (s ∷ styles) zero = refl
keyed_pixel-written (s ∷ styles) (suc style) = keyed_pixel-written styles style

-- style 0 aside
not_zero : (style : ℕ) (pixel : Channels) → cond (suc style == 0 || false) clear pixel ≡ pixel
not_zero style pixel = let no : (suc style == 0 || false) ≡ false = grind (arith, nat_tests) in ap (λ b. cond b clear pixel) no

pub style_at-keyed : (c : ColoursRecord) (row style : ℕ) (f : Dropped) (key : StyleKeyRecord) → key_at c row style ≡ Some key → 1 ≤ style
    → style < length c.styles → f style ≡ false → style_at c row f style ≡ pixel_of key.to
style_at-keyed c row zero f key is least lt not = absurd (omega arith)
style_at-keyed c row (suc style) f key is least lt not =
    style_at-undropped c row (suc style) f (Some key) is not
    ∙ (not_zero style (keyed_pixel (Some key) (slice_get c.styles (suc style))) ∙ keyed_pixel-set c.styles (suc style) key lt)

pub style_at-written :
    (c : ColoursRecord) (row style : ℕ) (f : Dropped) → key_at c row style ≡ None → f style ≡ false
    → style_at c row f style ≡ as_written c style
unfolding as_written
style_at-written c row zero f is not = style_at-undropped c row zero f None is not
style_at-written c row (suc style) f is not =
    style_at-undropped c row (suc style) f None is not
    ∙ (not_zero style (keyed_pixel None (slice_get c.styles (suc style))) ∙ keyed_pixel-written c.styles (suc style))
