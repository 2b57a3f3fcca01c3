-- The palette made of styles as keys set them and filters drop them
use Rattle.std.proofs.Common.{◌≡◌, ℕ, zero, suc, ◌<◌, ◌≤◌, Bool, true, false, ◌||◌, cond, length, get_or, List, map, slice_get, refl, sym, ap, ◌∙◌, ⊎_elim, arith}
use Rattle.std.proofs.Math.Path.{fun_ext}
use Rattle.std.proofs.Math.ListN.{get_or-map}
use Rattle.std.specs.List.{range_with_len}
use Rattle.std.proofs.lemmas.Bool.{cases_lt, ne_eqb}
use Rattle.std.proofs.lemmas.List.{get_or_past, length-map}
use Rattle.std.proofs.lemmas.List.FromFn.{get_or-map-range_with_len, length-map-range_with_len}
use Rattle.std.proofs.lemmas.Option.{slice_get-get_or}
use Rattle.xs_pixel.specs.Channels.{Channels, clear}
use Rattle.xs_pixel.specs.Operations.{product}
use Rattle.xs_pixel.specs.declared.style.Style.{Style}
use Rattle.xs_palette.specs.Styles.{written, style_of}
use Rattle.xs_palette.proofs.LookUp.{style_of-past}
use Rattle.xs_scene.specs.Records.{ColoursRecord}
use Rattle.xs_meaning.specs.Palettes.{Dropped, style_at, key_at, keyed, keyed_pixel, pixel_of}
use Rattle.xs_tint.specs.declared.shown.TheConstants.{NO_COLOUR}

no_colour-clear : pixel_of NO_COLOUR ≡ clear
unfolding product
no_colour-clear = refl

-- a style's pixel, dropped or not
shown_pixel : (b : Bool) (s : Style) → pixel_of (cond b NO_COLOUR s) ≡ cond b clear (pixel_of s)
shown_pixel true s = no_colour-clear
shown_pixel false s = refl

-- styles as the keys in force set them, and without colour where they are dropped
pub style_of-shown :
    (c : ColoursRecord) (row : ℕ) (f : Dropped) (styles : List Style)
    → ((style : ℕ) → length c.styles ≤ style → style_at c row f style ≡ clear) → length styles ≡ length c.styles
    → ((k : ℕ) (d : Style) → k < length c.styles → get_or styles k d ≡ cond (f k) NO_COLOUR (keyed (key_at c row k) (get_or c.styles k d)))
    → style_of (written styles) ≡ style_at c row f
unfolding style_at
style_of-shown c row f styles lacking long shown = fun_ext at
  where
    here : (id : ℕ) → suc id < length c.styles → get_or (written styles) (suc id) clear ≡ style_at c row f (suc id)
    here id inside =
        let d = NO_COLOUR in
        ap (get_or (written styles) (suc id)) (sym no_colour-clear)
        ∙ get_or-map pixel_of styles (suc id) d
        ∙ ap pixel_of (shown (suc id) d inside)
        ∙ shown_pixel (f (suc id)) (keyed (key_at c row (suc id)) (get_or c.styles (suc id) d))
        ∙ ap (λ o. cond (f (suc id)) clear (keyed_pixel (key_at c row (suc id)) o)) (sym (slice_get-get_or c.styles (suc id) d inside))
        ∙ ap (λ b. cond (b || f (suc id)) clear (keyed_pixel (key_at c row (suc id)) (slice_get c.styles (suc id)))) (sym (ne_eqb (suc id) 0 (omega arith)))

    at : (id : ℕ) → style_of (written styles) id ≡ style_at c row f id
    at zero = refl
    at (suc id) =
        ⊎_elim (here id)
        (λ past. get_or_past (written styles) (suc id) clear (omega (arith, length-map styles pixel_of, long)) ∙ sym (lacking (suc id) past))
        (cases_lt (suc id) (length c.styles))

-- the pixels of the styles of a palette, one by one
pub get_or-styles : (palette : List Channels) (id : ℕ) → get_or (map (style_of palette) (range_with_len 0 (length palette))) id clear ≡ style_of palette id
get_or-styles palette id =
    ⊎_elim
    (λ inside. get_or-map-range_with_len (style_of palette) 0 (length palette) id id clear inside (omega arith))
    (λ past.
    get_or_past (map (style_of palette) (range_with_len 0 (length palette))) id clear
    (omega (arith, length-map-range_with_len (style_of palette) 0 (length palette)))
    ∙ sym (style_of-past palette id past))
    (cases_lt id (length palette))
