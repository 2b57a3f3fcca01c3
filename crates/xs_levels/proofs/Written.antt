-- The pictures of files hold pixels, and are coloured as a scene's palettes are written
use Rattle.std.proofs.Common.{ℕ, zero, suc, ◌≡◌, ◌<◌, ◌&&◌, nat_lt, Bool, true, false, Option, Some, None, IfSome, List, [], ◌∷◌, map, get_or, drop, is_none, option_map, option_and_then, refl, sym, ap, subst, arith}
use Rattle.std.specs.Simd.Lanes.{Each1}
use Rattle.std.proofs.lemmas.Bool.{and_parts}
use Rattle.std.proofs.lemmas.Bool.Decides.{nat_tests}
use Rattle.std.proofs.lemmas.Simd.{Each1-get_or}
use Rattle.xs_cm32.specs.Word.{colour_under}
use Rattle.xs_cm32.specs.WordRows.{words}
use Rattle.xs_palette.specs.Styles.{style_of, written}
use Rattle.xs_pixel.specs.Channels.{Channels, IsPixel}
use Rattle.xs_pixel.specs.Picture.{ArePixels, HoldsPixels}
use Rattle.xs_pixel.specs.PixelRows.{pixels}
use Rattle.xs_scene.specs.declared.level.Kind.{Kind}
use Rattle.xs_scene.specs.declared.level.Kind.TheVariants.{Colour, Cm32}
use Rattle.xs_scene.specs.Records.{SceneRecord, LevelRecord, ColoursRecord}
use Rattle.xs_meaning.specs.Drawings.{seen_under, AreColouredAsWritten, written_colouring, colours_of, palette_of, level_of, no_colours}
use Rattle.xs_meaning.specs.Palettes.{as_written}
use Rattle.xs_rawfile.specs.declared.drawing.RawKind.{RawKind}
use Rattle.xs_rawfile.specs.declared.drawing.RawKind.TheVariants as raw_kind
use Rattle.xs_rawfile.specs.declared.fault.LevelCode.{LevelCode}
use Rattle.xs_rawfile.specs.Held.{content_of, coloured_of}
use Rattle.xs_rawfile.specs.Level.{raw_of, first_fault}
use Rattle.xs_rawfile.specs.Raw.{IsRaw, Fills}
use Rattle.xs_levels.specs.Table.{TableRecord, table_of, file_of, kind_of, kind_by, raw_kind_of, palette_number}
use Rattle.xs_levels.specs.Films.{Files, are_bytes, palettes_of, picture_in, pictures_of}
use Rattle.xs_levels.proofs.SceneKinds.{table_kinds, table_palettes}

-- ---- pixels

each_byte : (xs : List ℕ) → are_bytes xs ≡ true → Each1 (λ b. b < 256) xs
each_byte [] e = tt
each_byte (x ∷ xs) e =
    let both = and_parts (nat_lt x 256) (are_bytes xs) e in
    (grind (arith, nat_tests, both.0), each_byte xs both.1)

no_fault : (fault : Option LevelCode) → is_none fault ≡ true → fault ≡ None
no_fault None e = refl
no_fault (Some code) e = absurd cc

-- a file without a fault holds a drawing
abbrev pub FilesHold : Type 0
FilesHold = (kind : RawKind) (bytes : List ℕ) → Each1 (λ b. b < 256) bytes → first_fault kind bytes ≡ None → IsRaw (raw_of kind bytes)

filled : (kind : RawKind) (bytes : List ℕ) → Fills kind bytes → HoldsPixels (content_of kind bytes)
filled raw_kind.Colour bytes fills = λ i d lt. Each1-get_or IsPixel (pixels bytes) i d lt fills
filled raw_kind.Cm32 bytes fills = tt

picture_holds : FilesHold → (palettes : List (List Channels)) (kind : Kind) (bytes : List ℕ) (t : Bool)
    → (are_bytes bytes && is_none (first_fault (raw_kind_of kind) bytes)) ≡ t → IfSome (picture_in palettes kind bytes) (λ q. HoldsPixels q.content)
picture_holds hold palettes kind bytes true e =
    let both = and_parts (are_bytes bytes) _ e in
    let raw = hold (raw_kind_of kind) bytes (each_byte bytes both.0) (no_fault _ both.1) in
    rw e (filled (raw_kind_of kind) (drop 21 bytes) raw.fills)
picture_holds hold palettes kind bytes false e = rw e tt

file_holds : FilesHold → (palettes : List (List Channels)) (kind : Kind) (file : Option (List ℕ))
    → IfSome (option_and_then (picture_in palettes kind) file) (λ q. HoldsPixels q.content)
file_holds hold palettes kind None = tt
file_holds hold palettes kind (Some bytes) = picture_holds hold palettes kind bytes _ refl

pub pictures_hold : FilesHold → (files : Files) (t : TableRecord) → ArePixels (pictures_of files t)
unfolding pictures_of
pictures_hold hold files t d = file_holds hold (palettes_of t) (kind_of t d) (files (file_of t d))

-- ---- colours

-- the pixels of a scene's palettes as they are written
abbrev written_of : List ColoursRecord → List (List Channels)
written_of palettes = map (λ (palette : ColoursRecord). written palette.styles) palettes

written_at : (palettes : List ColoursRecord) (n : ℕ) → get_or (written_of palettes) n [] ≡ written (get_or palettes n no_colours).styles
written_at [] n = refl
written_at (c ∷ cs) zero = refl
written_at (c ∷ cs) (suc n) = written_at cs n

by_kind : (palettes : List ColoursRecord) (kind : Kind) (bytes : List ℕ)
    → coloured_of (written_of palettes) (raw_kind_of kind) bytes (palette_number kind)
    ≡ seen_under (option_map as_written (palette_of palettes kind)) (content_of (raw_kind_of kind) bytes)
unfolding as_written
by_kind palettes Colour bytes = refl
by_kind palettes (Cm32 n) bytes = ap (λ (styles : List Channels). map (colour_under (style_of styles)) (words bytes)) (written_at palettes n)

by_level : (palettes : List ColoursRecord) (level : Option LevelRecord) (bytes : List ℕ)
    → coloured_of (written_of palettes) (raw_kind_of (kind_by level)) bytes (palette_number (kind_by level))
    ≡ seen_under (option_map as_written (option_and_then (λ (l : LevelRecord). palette_of palettes l.kind) level))
    (content_of (raw_kind_of (kind_by level)) bytes)
by_level palettes None bytes = by_kind palettes Colour bytes
by_level palettes (Some level) bytes = by_kind palettes level.kind bytes

-- a drawing with this kind, under these palettes, is coloured as its palette is written
abbrev IsColoured : SceneRecord → ℕ → List (List Channels) → Kind → Type 0
IsColoured s d palettes kind = (bytes : List ℕ) → coloured_of palettes (raw_kind_of kind) bytes (palette_number kind)
    ≡ seen_under (written_colouring s d) (content_of (raw_kind_of kind) bytes)

by_scene : (s : SceneRecord) (d : ℕ) → IsColoured s d (written_of s.palettes) (kind_by (level_of s.levels d))
unfolding colours_of
by_scene s d bytes = by_level s.palettes (level_of s.levels d) bytes

picture_coloured : (s : SceneRecord) (d : ℕ) (palettes : List (List Channels)) (kind : Kind) → IsColoured s d palettes kind → (bytes : List ℕ) (t : Bool)
    → (are_bytes bytes && is_none (first_fault (raw_kind_of kind) bytes)) ≡ t
    → IfSome (picture_in palettes kind bytes) (λ q. q.coloured ≡ seen_under (written_colouring s d) q.content)
picture_coloured s d palettes kind is bytes true e = rw e (is (drop 21 bytes))
picture_coloured s d palettes kind is bytes false e = rw e tt

file_coloured : (s : SceneRecord) (d : ℕ) (palettes : List (List Channels)) (kind : Kind) → IsColoured s d palettes kind → (file : Option (List ℕ))
    → IfSome (option_and_then (picture_in palettes kind) file) (λ q. q.coloured ≡ seen_under (written_colouring s d) q.content)
file_coloured s d palettes kind is None = tt
file_coloured s d palettes kind is (Some bytes) = picture_coloured s d palettes kind is bytes _ refl

pub pictures_coloured : (files : Files) (s : SceneRecord) → AreColouredAsWritten s (pictures_of files (table_of s))
unfolding pictures_of
pictures_coloured files s d =
    file_coloured s d (palettes_of (table_of s)) (kind_of (table_of s) d)
    (subst (λ (k : Kind). IsColoured s d (palettes_of (table_of s)) k) (sym (table_kinds s d))
    (subst (λ (c : List ColoursRecord). IsColoured s d (written_of c) (kind_by (level_of s.levels d))) (sym (table_palettes s)) (by_scene s d)))
    (files (file_of (table_of s) d))
