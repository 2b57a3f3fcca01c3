-- A tint gives each style the pixel of the colouring that it was made by
use Rattle.std.proofs.Common.{ℕ, zero, suc, ◌≡◌, ◌<◌, ◌≤◌, ◌==◌, ◌||◌, refl, sym, ap, ◌∙◌, true, List, [], ◌∷◌, slice_get, get_or, length, arith, ⊎_elim}
use Rattle.std.proofs.lemmas.Bool.{cases_lt, cond_both, and_parts}
use Rattle.std.proofs.lemmas.List.{get_or_past, length-map}
use Rattle.std.proofs.lemmas.List.FromFn.{length-map-range_with_len, get_or-map-range_with_len}
use Rattle.std.proofs.lemmas.Option.{slice_get_past}
use mathlib.Core.Path.{fun_ext, ap₂}
use Rattle.xs_pixel.specs.Channels.{Channels, clear}
use Rattle.xs_palette.specs.Styles.{written}
use Rattle.xs_scene.specs.Records.{ColoursRecord}
use Rattle.xs_meaning.specs.Palettes.{Colouring, Dropped, as_written, style_at, pixels_by, same_pixel, same_pixels, is_clear_pixel, before, without_clear_end, tint_by, tint_at, tint_style, is_as_written, keyed_pixel, key_at, pixel_of}

pub same_pixel_true : (p q : Channels) → same_pixel p q ≡ true → p ≡ q
same_pixel_true p q same = grind arith

same_pixels_true : (ps qs : List Channels) → same_pixels ps qs ≡ true → ps ≡ qs
same_pixels_true [] [] same = refl
same_pixels_true [] (q ∷ qs) same = cc
same_pixels_true (p ∷ ps) [] same = cc
same_pixels_true (p ∷ ps) (q ∷ qs) same =
    let both = and_parts (same_pixel p q) (same_pixels ps qs) same in
    ap₂ (λ x xs. x ∷ xs) (same_pixel_true p q both.0) (same_pixels_true ps qs both.1)

slice_index_or-before : (p : Channels) (ps : List Channels) (i : ℕ) → get_or (before p ps) i clear ≡ get_or (p ∷ ps) i clear
slice_index_or-before p [] i =
    cond_both (is_clear_pixel p) [] (p ∷ []) (λ xs. get_or xs i clear ≡ get_or (p ∷ []) i clear)
    (λ passes. alone p i (same_pixel_true p clear passes)) (λ fails. refl)
  where
    alone : (p : Channels) (i : ℕ) → p ≡ clear → clear ≡ get_or (p ∷ []) i clear
    alone p zero same = sym same
    alone p (suc i) same = refl
slice_index_or-before p (q ∷ qs) i = refl

pub slice_index_or-without_clear_end :
    (ps : List Channels) (i : ℕ) → get_or (without_clear_end ps) i clear ≡ get_or ps i clear
slice_index_or-without_clear_end [] i = refl
slice_index_or-without_clear_end (p ∷ ps) zero = slice_index_or-before p (without_clear_end ps) zero
slice_index_or-without_clear_end (p ∷ ps) (suc i) =
    slice_index_or-before p (without_clear_end ps) (suc i) ∙ slice_index_or-without_clear_end ps i

-- a tint has the pixel of each style, where those past the palette's end are clear
get_or-tint_by :
    (c : ColoursRecord) (colouring : Colouring)
    → ((style : ℕ) → length c.styles ≤ style → colouring style ≡ clear)
    → (style : ℕ) → get_or (tint_by c colouring) style clear ≡ colouring style
get_or-tint_by c colouring past style =
    slice_index_or-without_clear_end (pixels_by c colouring) style ∙ ⊎_elim here beyond (cases_lt style (length c.styles))
  where
    here : style < length c.styles → get_or (pixels_by c colouring) style clear ≡ colouring style
    here lt = get_or-map-range_with_len colouring 0 (length c.styles) style style clear lt (omega arith)

    beyond : length c.styles ≤ style → get_or (pixels_by c colouring) style clear ≡ colouring style
    beyond le =
        get_or_past (pixels_by c colouring) style clear
        (omega (arith, length-map-range_with_len colouring 0 (length c.styles)))
        ∙ sym (past style le)

-- and gives each style its pixel, where style 0 is clear too
tint_style-tint_by :
    (c : ColoursRecord) (colouring : Colouring)
    → colouring 0 ≡ clear → ((style : ℕ) → length c.styles ≤ style → colouring style ≡ clear)
    → (style : ℕ) → tint_style (tint_by c colouring) style ≡ colouring style
unfolding tint_style
tint_style-tint_by c colouring first past zero = sym first
tint_style-tint_by c colouring first past (suc id) = get_or-tint_by c colouring past (suc id)

-- a style that a palette lacks is clear
as_written-past : (c : ColoursRecord) (style : ℕ) → length c.styles ≤ style → as_written c style ≡ clear
unfolding as_written
as_written-past c zero past = refl
as_written-past c (suc id) past =
    get_or_past (written c.styles) (suc id) clear (omega (arith, length-map c.styles pixel_of))

pub style_at-past :
    (c : ColoursRecord) (row : ℕ) (f : Dropped) (style : ℕ) → length c.styles ≤ style → style_at c row f style ≡ clear
unfolding style_at
style_at-past c row f style past =
    cond_both (style == 0 || f style) clear (keyed_pixel (key_at c row style) (slice_get c.styles style)) (λ p. p ≡ clear)
    (λ passes. refl) (λ fails. ap (keyed_pixel (key_at c row style)) (slice_get_past c.styles style past))

style_at-zero : (c : ColoursRecord) (row : ℕ) (f : Dropped) → style_at c row f 0 ≡ clear
unfolding style_at
style_at-zero c row f = refl

as_written-zero : (c : ColoursRecord) → as_written c 0 ≡ clear
unfolding as_written
as_written-zero c = refl

pub tint_style-tint_at :
    (c : ColoursRecord) (row : ℕ) (f : Dropped) → tint_style (tint_at c row f) ≡ style_at c row f
tint_style-tint_at c row f =
    fun_ext (tint_style-tint_by c (style_at c row f) (style_at-zero c row f) (style_at-past c row f))

tint_style-as_written : (c : ColoursRecord) → tint_style (tint_by c (as_written c)) ≡ as_written c
tint_style-as_written c = fun_ext (tint_style-tint_by c (as_written c) (as_written-zero c) (as_written-past c))

pub get_or-tint_at : (c : ColoursRecord) (row : ℕ) (f : Dropped) (style : ℕ) → get_or (tint_at c row f) style clear ≡ style_at c row f style
get_or-tint_at c row f = get_or-tint_by c (style_at c row f) (style_at-past c row f)

pub get_or-tint_as_written : (c : ColoursRecord) (style : ℕ) → get_or (tint_by c (as_written c)) style clear ≡ as_written c style
get_or-tint_as_written c = get_or-tint_by c (as_written c) (as_written-past c)

-- a palette that is as written gives every style its written pixel
pub as_written-is_as_written :
    (c : ColoursRecord) (row : ℕ) (f : Dropped) → is_as_written c row f ≡ true → as_written c ≡ style_at c row f
as_written-is_as_written c row f same =
    sym (tint_style-as_written c)
    ∙ ap tint_style (sym (same_pixels_true (tint_at c row f) (tint_by c (as_written c)) same))
    ∙ tint_style-tint_at c row f
