-- The kinds of a scene's drawings
use Rattle.std.proofs.Common.{◌≡◌, ℕ, zero, suc, ◌+◌, ◌-◌, ◌<◌, ◌≤◌, nat_lt, Option, Some, None, Bool, true, false, if◌then◌else◌, List, [], ◌∷◌, ◌++◌, length, map, get_or, All, refl, sym, ap, ◌∙◌, subst, arith}
use Rattle.std.specs.List.{flat_map}
use Rattle.std.proofs.lemmas.Bool.Decides.{nat_tests}
use Rattle.std.proofs.lemmas.List.{get_or_append_left, get_or-append_right, length-map, length-append}
use Rattle.std.proofs.lemmas.List.Elements.{All-append, All-head, All-tail}
use Rattle.xs_scene.specs.declared.level.Kind.{Kind}
use Rattle.xs_scene.specs.declared.level.Kind.TheVariants.{Colour, Cm32}
use Rattle.xs_scene.specs.Records.{SceneRecord, LevelRecord, ColoursRecord}
use Rattle.xs_meaning.specs.Drawings.{level_of}
use Rattle.xs_check.specs.Good.{IsGood, IsGoodPalette, files_of}
use Rattle.xs_check.specs.Good.{HasPalette as HasPaletteOf}
use Rattle.xs_levels.specs.Table.{TableRecord, IsTable, HasPalette, table_of, kind_of, kind_by, kinds_in}

same_at : {A : Type 0} (kind other : Kind) (xs : List A) (d : ℕ) → d < length xs → get_or (map (λ _. kind) xs) d other ≡ kind
same_at kind other [] d within = absurd (omega arith)
same_at kind other (x ∷ xs) zero within = refl
same_at kind other (x ∷ xs) (suc d) within = same_at kind other xs d (omega arith)

kinds_by : (l : LevelRecord) (ls : List LevelRecord) (d : ℕ) (b : Bool) → nat_lt d (length l.drawings) ≡ b
    → ((e : ℕ) → get_or (flat_map kinds_in ls) e Colour ≡ kind_by (level_of ls e))
    → get_or (kinds_in l ++ flat_map kinds_in ls) d Colour ≡ kind_by (if b then Some l else level_of ls (d - length l.drawings))
kinds_by l ls d true is later =
    let within : d < length l.drawings = grind (arith, nat_tests, is) in
    get_or_append_left (kinds_in l) (flat_map kinds_in ls) Colour d (omega (arith, within, length-map l.drawings (λ _. l.kind)))
    ∙ same_at l.kind Colour l.drawings d within
kinds_by l ls d false is later =
    let past : length l.drawings ≤ d = grind (arith, nat_tests, is) in
    get_or-append_right (kinds_in l) (flat_map kinds_in ls) (length l.drawings) d Colour (length-map l.drawings (λ _. l.kind)) past
    ∙ later (d - length l.drawings)

pub kinds_at : (levels : List LevelRecord) (d : ℕ) → get_or (flat_map kinds_in levels) d Colour ≡ kind_by (level_of levels d)
kinds_at [] d = refl
kinds_at (l ∷ ls) d = kinds_by l ls d (nat_lt d (length l.drawings)) refl (kinds_at ls)

pub kinds_count : (levels : List LevelRecord) → length (flat_map kinds_in levels) ≡ length (files_of levels)
kinds_count [] = refl
kinds_count (l ∷ ls) =
    let rest = kinds_count ls in
    omega (
      arith,
      rest,
      length-map l.drawings (λ _. l.kind),
      length-append (kinds_in l) (flat_map kinds_in ls),
      length-append l.drawings (files_of ls),
    )

named : (s : SceneRecord) (kind : Kind) → HasPaletteOf s kind → HasPalette (length s.palettes) kind
named s Colour has = tt
named s (Cm32 palette) has = has

all_named : (s : SceneRecord) (levels : List LevelRecord) → All (λ l. HasPaletteOf s l.kind) levels
    → All (HasPalette (length s.palettes)) (flat_map kinds_in levels)
all_named s [] all = λ k d lt. absurd (omega arith)
all_named s (l ∷ ls) all =
    let first = named s l.kind (All-head (λ l. HasPaletteOf s l.kind) l ls all) in
    All-append (HasPalette (length s.palettes)) (kinds_in l) (flat_map kinds_in ls)
    (λ k d lt.
    let within : k < length l.drawings = omega (arith, lt, length-map l.drawings (λ _. l.kind)) in
    subst (HasPalette (length s.palettes)) (sym (same_at l.kind d l.drawings k within)) first)
    (all_named s ls (All-tail (λ l. HasPaletteOf s l.kind) l ls all))

pub table_sound : (s : SceneRecord) → IsGood s → IsTable (table_of s)
unfolding table_of
table_sound s good = record {
  kinds = kinds_count s.levels;
  palettes = all_named s s.levels good.levels;
  styles = λ k d lt. (good.palettes k d lt).styles;
}

pub table_files : (s : SceneRecord) → (table_of s).files ≡ files_of s.levels
unfolding table_of
table_files s = refl

pub table_kinds : (s : SceneRecord) (d : ℕ) → kind_of (table_of s) d ≡ kind_by (level_of s.levels d)
unfolding table_of
table_kinds s d = kinds_at s.levels d

pub table_palettes : (s : SceneRecord) → (table_of s).palettes ≡ s.palettes
unfolding table_of
table_palettes s = refl
