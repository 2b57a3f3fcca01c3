-- Palettes that give every style the same pixel have one tint, and the other way round
use Rattle.std.proofs.Common.{◌≡◌, ℕ, ◌<◌, ◌≤◌, true, ◌&&◌, eqb, List, map, length, get_or, sym, ap, ◌∙◌, ⊎_elim, arith}
use Rattle.std.specs.List.{range_with_len}
use Rattle.std.proofs.lemmas.Bool.{cases_lt, eq-eqb, and_from}
use Rattle.std.proofs.lemmas.List.{get_or_past, length-map}
use Rattle.std.proofs.lemmas.List.FromFn.{get_or-map-range_with_len, length-map-range_with_len}
use Rattle.xs_pixel.specs.Channels.{Channels, clear}
use Rattle.xs_palette.specs.Styles.{written, style_of}
use Rattle.xs_palette.proofs.LookUp.{style_of-past}
use Rattle.xs_scene.specs.Records.{ColoursRecord}
use Rattle.xs_meaning.specs.Palettes.{as_written, pixel_of, tint_by, without_clear_end}
use Rattle.xs_tint.specs.Tints.{tint_of}

get_or-styles : (palette : List Channels) (id : ℕ) → get_or (map (style_of palette) (range_with_len 0 (length palette))) id clear ≡ style_of palette id
get_or-styles palette id =
    ⊎_elim
    (λ inside. get_or-map-range_with_len (style_of palette) 0 (length palette) id id clear inside (omega arith))
    (λ past.
    get_or_past (map (style_of palette) (range_with_len 0 (length palette))) id clear
    (omega (arith, length-map-range_with_len (style_of palette) 0 (length palette)))
    ∙ sym (style_of-past palette id past))
    (cases_lt id (length palette))

get_or-written :
    (c : ColoursRecord) (id : ℕ)
    → get_or (map (as_written c) (range_with_len 0 (length c.styles))) id clear ≡ style_of (written c.styles) id
unfolding as_written
get_or-written c id =
    ⊎_elim
    (λ inside. get_or-map-range_with_len (as_written c) 0 (length c.styles) id id clear inside (omega arith))
    (λ past.
    get_or_past (map (as_written c) (range_with_len 0 (length c.styles))) id clear
    (omega (arith, length-map-range_with_len (as_written c) 0 (length c.styles)))
    ∙ sym (style_of-past (written c.styles) id (omega (arith, length-map c.styles pixel_of))))
    (cases_lt id (length c.styles))

-- clear pixels at the end of a list tell nothing
module _ (same_pixels : (xs : List Channels) (i : ℕ) → get_or (without_clear_end xs) i clear ≡ get_or xs i clear)
    (one_list : (xs ys : List Channels) → ((i : ℕ) → get_or xs i clear ≡ get_or ys i clear) → without_clear_end xs ≡ without_clear_end ys)
  where
    get_or-tint_of : (palette : List Channels) (id : ℕ) → get_or (tint_of palette) id clear ≡ style_of palette id
    get_or-tint_of palette id = same_pixels (map (style_of palette) (range_with_len 0 (length palette))) id ∙ get_or-styles palette id

    pub styles-from_tint : (a b : List Channels) → tint_of a ≡ tint_of b → (id : ℕ) → style_of a id ≡ style_of b id
    styles-from_tint a b same id = sym (get_or-tint_of a id) ∙ ap (λ t. get_or t id clear) same ∙ get_or-tint_of b id

    -- as many styles as the longer palette has decide
    pub tint-from_styles :
        (a b : List Channels) (count : ℕ) → length a ≤ count → length b ≤ count
        → ((id : ℕ) → id < count → style_of a id ≡ style_of b id) → tint_of a ≡ tint_of b
    tint-from_styles a b count of_a of_b same =
        one_list (map (style_of a) (range_with_len 0 (length a))) (map (style_of b) (range_with_len 0 (length b)))
        (λ id.
        get_or-styles a id
        ∙ ⊎_elim (same id) (λ past. style_of-past a id (omega arith) ∙ sym (style_of-past b id (omega arith))) (cases_lt id count)
        ∙ sym (get_or-styles b id))

    -- a palette with the styles as they are written
    pub tint-written :
        (c : ColoursRecord) (p : List Channels) → style_of p ≡ style_of (written c.styles) → tint_of p ≡ tint_by c (as_written c)
    tint-written c p same =
        one_list (map (style_of p) (range_with_len 0 (length p))) (map (as_written c) (range_with_len 0 (length c.styles)))
        (λ id. get_or-styles p id ∙ ap (λ (f : ℕ → Channels). f id) same ∙ sym (get_or-written c id))

pub same_test : (p q : Channels) → p ≡ q → (eqb p.r q.r && (eqb p.g q.g && (eqb p.b q.b && eqb p.m q.m))) ≡ true
same_test p q same =
    and_from _ _ (eq-eqb p.r q.r (ap (λ (c : Channels). c.r) same))
    (and_from _ _ (eq-eqb p.g q.g (ap (λ (c : Channels). c.g) same))
    (and_from _ _ (eq-eqb p.b q.b (ap (λ (c : Channels). c.b) same)) (eq-eqb p.m q.m (ap (λ (c : Channels). c.m) same))))
