-- Palettes that are read one after another.
use Rattle.std.proofs.Common.{◌≡◌, ℕ, ◌+◌, ◌<◌, ◌≤◌, List, [], ◌∷◌, ◌++◌, length, get_or, sym, ap, ◌∙◌, arith, below_more, ◌⊎◌, inl, inr}
use Rattle.std.proofs.lemmas.Bool.{cases_lt}
use Rattle.std.proofs.lemmas.List.{get_or_append_left, get_or-map, length-map, get_or_past}
use Rattle.std.proofs.Math.Seq.{get_or-append_seam}
use Rattle.xs_pixel.specs.Channels.{Channels}
use Rattle.xs_palette.specs.Styles.{written, style_of}
use Rattle.xs_scene.specs.Records.{ColoursRecord}
use Rattle.xs_levels.specs.Table.{TableRecord}
use Rattle.xs_levels.specs.Films.{palettes_of, AreAsWritten}

-- so many palettes are as those of a table are written
abbrev pub AreAsWrittenTo : ℕ → List (List Channels) → TableRecord → Type 0
AreAsWrittenTo n palettes s = (p : ℕ) → p < n → style_of (get_or palettes p []) ≡ style_of (get_or (palettes_of s) p [])

palette_at : (s : TableRecord) (i : ℕ) (colours : ColoursRecord) → i < length s.palettes → colours ≡ get_or s.palettes i colours
    → get_or (palettes_of s) i [] ≡ written colours.styles
palette_at s i colours within is =
    get_or-map (λ palette. written palette.styles) s.palettes i colours [] within ∙ ap (λ c. written c.styles) (sym is)

pub one_more_shown : (s : TableRecord) (palettes : List (List Channels)) (next : List Channels) (i : ℕ) (colours : ColoursRecord)
    → i < length s.palettes → colours ≡ get_or s.palettes i colours → length palettes ≡ i → style_of next ≡ style_of (written colours.styles)
    → AreAsWrittenTo i palettes s → AreAsWrittenTo (i + 1) (palettes ++ next ∷ []) s
one_more_shown s palettes next i colours within is count shown before =
    below_more _ _
    (λ p below. let left : p < length palettes = omega (arith, count) in ap style_of (get_or_append_left palettes (next ∷ []) [] p left) ∙ before p below)
    (ap style_of (ap (λ n. get_or (palettes ++ next ∷ []) n []) (sym count) ∙ get_or-append_seam palettes next [] [])
    ∙ (shown ∙ ap style_of (sym (palette_at s i colours within is))))

all_shown_by : (s : TableRecord) (palettes : List (List Channels)) (n p : ℕ) → (p < n) ⊎ (n ≤ p) → length palettes ≡ n → length s.palettes ≡ n
    → AreAsWrittenTo n palettes s → style_of (get_or palettes p []) ≡ style_of (get_or (palettes_of s) p [])
all_shown_by s palettes n p (inl below) count all shown = shown p below
all_shown_by s palettes n p (inr past) count all shown =
    let here : length palettes ≤ p = omega (arith, count) in
    let there : length (palettes_of s) ≤ p = omega (arith, all, length-map s.palettes (λ palette. written palette.styles)) in
    ap style_of (get_or_past palettes p [] here ∙ sym (get_or_past (palettes_of s) p [] there))

pub all_shown : (s : TableRecord) (palettes : List (List Channels)) (n : ℕ) → length palettes ≡ n → length s.palettes ≡ n
    → AreAsWrittenTo n palettes s → AreAsWritten palettes s
all_shown s palettes n count all shown p = all_shown_by s palettes n p (cases_lt p n) count all shown
