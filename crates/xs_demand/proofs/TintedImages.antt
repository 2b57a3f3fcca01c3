-- A palette and its canonical tint colour pictures alike
use Rattle.std.proofs.Common.{◌≡◌, ℕ, zero, suc, ◌<◌, ◌≤◌, List, map, length, get_or, Option, Some, None, refl, sym, ◌∙◌, ⊎_elim, arith}
use Rattle.std.proofs.Math.Path.{fun_ext}
use Rattle.std.specs.List.{range_with_len}
use Rattle.std.proofs.lemmas.Bool.{cases_lt}
use Rattle.std.proofs.lemmas.List.{get_or_past}
use Rattle.std.proofs.lemmas.List.FromFn.{get_or-map-range_with_len, length-map-range_with_len}
use Rattle.xs_palette.specs.Styles.{style_of}
use Rattle.xs_pixel.specs.Channels.{Channels, clear}
use Rattle.xs_pixel.specs.Picture.{Picture}
use Rattle.xs_pixel.specs.Points.{Point}
use Rattle.xs_meaning.specs.Palettes.{without_clear_end}
use Rattle.xs_tint.specs.Tints.{tint_of}
use Rattle.xs_plan.specs.Values.{tinted_pixel}

-- clear pixels at the end of a list tell nothing
abbrev pub EndsTellNothing : Type 0
EndsTellNothing = (pixels : List Channels) (i : ℕ) → get_or (without_clear_end pixels) i clear ≡ get_or pixels i clear

-- the pixels of the styles of a palette, one by one
pub get_or-styles :
    (palette : List Channels) (id : ℕ)
    → get_or (map (style_of palette) (range_with_len 0 (length palette))) id clear ≡ style_of palette id
get_or-styles palette id = ⊎_elim inside beyond (cases_lt id (length palette))
  where
    inside : id < length palette → get_or (map (style_of palette) (range_with_len 0 (length palette))) id clear ≡ style_of palette id
    inside lt = get_or-map-range_with_len (style_of palette) 0 (length palette) id id clear lt (omega arith)

    past_end : (id : ℕ) → length palette ≤ id → style_of palette id ≡ clear
    past_end zero past = refl
    past_end (suc id) past = get_or_past palette (suc id) clear past

    beyond : length palette ≤ id → get_or (map (style_of palette) (range_with_len 0 (length palette))) id clear ≡ style_of palette id
    beyond past =
        get_or_past (map (style_of palette) (range_with_len 0 (length palette))) id clear
        (omega (arith, length-map-range_with_len (style_of palette) 0 (length palette)))
        ∙ sym (past_end id past)

style_of-tint_of : EndsTellNothing → (palette : List Channels) (id : ℕ) → style_of (tint_of palette) id ≡ style_of palette id
style_of-tint_of ends palette zero = refl
style_of-tint_of ends palette (suc id) =
    ends (map (style_of palette) (range_with_len 0 (length palette))) (suc id) ∙ get_or-styles palette (suc id)

pub tinted-by_tint_of :
    EndsTellNothing → (picture : Option Picture) (palette : List Channels) (p : Point)
    → tinted_pixel picture (tint_of palette) p ≡ tinted_pixel picture palette p
unfolding tinted_pixel
tinted-by_tint_of ends None palette p = refl
tinted-by_tint_of ends (Some q) palette p =
    let same : style_of (tint_of palette) ≡ style_of palette = fun_ext (style_of-tint_of ends palette) in
    rw same refl
