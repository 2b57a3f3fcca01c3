-- Files of drawings, and the pictures that they show
use Rattle.std.proofs.Common.{◌≡◌, ℕ, suc, ◌+◌, ◌*◌, ◌<◌, ◌≤◌, Bool, true, false, if◌then◌else◌, List, [], ◌∷◌, length, get_or, map, nat_lt, slice_get, slice_index_or, Option, Some, None, Fits, w8, refl, sym, ap, ◌∙◌, subst, arith}
use Rattle.std.proofs.lemmas.Bool.Decides.{nat_tests}
use Rattle.xs_base.specs.declared.limits.TheConstants.{DRAWING_LIMIT, MOST_STYLES}
use Rattle.xs_pixel.specs.Channels.{Channels}
use Rattle.xs_pixel.specs.Picture.{Pictures}
use Rattle.xs_cm32.specs.Word.{colour_under}
use Rattle.xs_cm32.specs.WordRows.{words}
use Rattle.xs_palette.specs.Styles.{style_of}
use Rattle.xs_scene.specs.declared.level.Kind.{Kind}
use Rattle.xs_scene.specs.declared.level.Kind.TheVariants.{Colour, Cm32}
use Rattle.xs_rawfile.specs.declared.drawing.RawKind.{RawKind}
use Rattle.xs_rawfile.specs.declared.drawing.RawKind.TheVariants as raw_kind
use Rattle.xs_rawfile.specs.declared.fault.LevelCode.{LevelCode}
use Rattle.xs_rawfile.specs.declared.fault.LevelCode.TheVariants.{Absent, TooLong}
use Rattle.xs_rawfile.specs.Raw.{Raw}
use Rattle.xs_rawfile.specs.Level.{first_fault}
use Rattle.xs_rawfile.specs.Held.{picture_of, coloured_of, content_of, HasItsPalette}
use Rattle.xs_plan.specs.Needed.{picture_bytes}
use Rattle.xs_levels.specs.Table.{TableRecord, IsTable, HasPalette, file_of, kind_of, raw_kind_of, palette_number}
use Rattle.xs_levels.specs.Films.{Files, AreAsWritten, IsFileOf, palettes_of, are_bytes, pictures_of, film_of, fault_of, file_fault}
use Rattle.xs_levels.specs.Stocked.{raw_bytes}
use Rattle.xs_levels.specs.declared.loaded.Refusal.{Refusal}
use Rattle.xs_levels.specs.declared.loaded.Refusal.TheVariants as refusal
use Rattle.xs_levels.specs.Loading.{IsRefused, IsUnread}
use Rattle.xs_scene.specs.Records.{ColoursRecord}
use Rattle.std.proofs.lemmas.Option.{get_or_from_slice_get, slice_get_within}

pub names_kind : (palettes : List (List Channels)) (count : ℕ) (kind : Kind) → length palettes ≡ count → HasPalette count kind
    → HasItsPalette palettes (raw_kind_of kind) (palette_number kind)
names_kind palettes count Colour few has = tt
names_kind palettes count (Cm32 palette) few has = omega (arith, few, has)

-- ---- bytes

pub are_bytes_from : (xs : List ℕ) → ((k : ℕ) → Fits w8 (get_or xs k 0)) → are_bytes xs ≡ true
are_bytes_from [] fits = refl
are_bytes_from (x ∷ xs) fits =
    let first = fits 0 in
    let rest : are_bytes xs ≡ true = are_bytes_from xs (λ k. fits (suc k)) in
    let below : nat_lt x 256 ≡ true = grind (arith, nat_tests, first.fits) in
    rw (below, rest) refl

-- ---- pictures

same_colours : (palettes others : List (List Channels)) (kind : RawKind) (bytes : List ℕ) (palette : Option ℕ)
    → ((p : ℕ) → style_of (slice_index_or palettes p []) ≡ style_of (slice_index_or others p []))
    → coloured_of palettes kind bytes palette ≡ coloured_of others kind bytes palette
same_colours palettes others raw_kind.Colour bytes palette same = refl
same_colours palettes others raw_kind.Cm32 bytes (Some p) same = ap (λ styles. map (colour_under styles) (words bytes)) (same p)
same_colours palettes others raw_kind.Cm32 bytes None same = refl

same_picture : (t : TableRecord) (palettes : List (List Channels)) (g : Raw) (palette : Option ℕ) → AreAsWritten palettes t
    → picture_of (palettes_of t) g palette ≡ picture_of palettes g palette
same_picture t palettes g palette shown =
    ap (λ colours. record { x0 = g.x0; y0 = g.y0; w = g.w; h = g.h; content = content_of g.kind g.bytes; coloured = colours })
    (sym (same_colours palettes (palettes_of t) g.kind g.bytes palette shown))

-- the picture of a drawing whose file was read
pub picture_is : (files : Files) (t : TableRecord) (d : ℕ) (g : Raw) → IsFileOf files t d g
    → pictures_of files t d ≡ Some (picture_of (palettes_of t) g (palette_number (kind_of t d)))
unfolding pictures_of
picture_is files t d g file = rw (file.there, file.numbers, file.accepted, file.drawing) refl

-- its bytes
pub bytes_are : (files : Files) (t : TableRecord) (d : ℕ) (g : Raw) → IsFileOf files t d g → raw_bytes g ≡ picture_bytes (pictures_of files t d)
bytes_are files t d g file = sym (ap picture_bytes (picture_is files t d g file))

told_film : (files : Option Files) (t : TableRecord) (pictures : Pictures) → film_of files t ≡ Some pictures
    → (told : Files) × (files ≡ Some told) × (pictures_of told t ≡ pictures)
told_film None t pictures e = absurd cc
told_film (Some told) t pictures e = (told, refl, cc)

-- a drawing that was read is its picture in the film
pub filmed : (files : Option Files) (t : TableRecord) (palettes : List (List Channels)) (d : ℕ) (g : Raw) (pictures : Pictures)
    → film_of files t ≡ Some pictures → AreAsWritten palettes t → ((told : Files) → files ≡ Some told → IsFileOf told t d g)
    → pictures d ≡ Some (picture_of palettes g (palette_number (kind_of t d)))
filmed files t palettes d g pictures film shown read =
    let told = told_film files t pictures film in
    ap (λ p. p d) (sym told.2) ∙ (picture_is told.0 t d g (read told.0 told.1)
    ∙ ap Some (same_picture t palettes g (palette_number (kind_of t d)) shown))

-- ---- the fault of a file

pub fault_absent : (files : Files) (t : TableRecord) (d : ℕ) → files (file_of t d) ≡ None → fault_of files t d ≡ Some Absent
unfolding fault_of
fault_absent files t d none = ap (file_fault (kind_of t d)) none

pub fault_long : (files : Files) (t : TableRecord) (d : ℕ) (bytes : List ℕ) → files (file_of t d) ≡ Some bytes → DRAWING_LIMIT < length bytes
    → fault_of files t d ≡ Some TooLong
unfolding fault_of
fault_long files t d bytes there long =
    let test : nat_lt DRAWING_LIMIT (length bytes) ≡ true = grind (arith, nat_tests, long) in
    ap (file_fault (kind_of t d)) there
    ∙ ap (λ b. if b then Some TooLong else first_fault (raw_kind_of (kind_of t d)) bytes) test

pub fault_read : (files : Files) (t : TableRecord) (d : ℕ) (bytes : List ℕ) → files (file_of t d) ≡ Some bytes → length bytes ≤ DRAWING_LIMIT
    → fault_of files t d ≡ first_fault (raw_kind_of (kind_of t d)) bytes
unfolding fault_of
fault_read files t d bytes there short =
    let test : nat_lt DRAWING_LIMIT (length bytes) ≡ false = grind (arith, nat_tests, short) in
    ap (file_fault (kind_of t d)) there
    ∙ ap (λ b. if b then Some TooLong else first_fault (raw_kind_of (kind_of t d)) bytes) test

-- why bytes are not read is why a drawing is refused
pub refused_unread : (files : Files) (t : TableRecord) (limit over d : ℕ) (fault : Option LevelCode) (r : Refusal) → fault_of files t d ≡ fault
    → IsUnread fault r → IsRefused files t limit over d r
refused_unread files t limit over d fault (refusal.Level code) e is = e ∙ is.0
refused_unread files t limit over d fault refusal.Limit e is = absurd is
refused_unread files t limit over d fault refusal.ReadFault e is = tt
refused_unread files t limit over d fault refusal.Memory e is = tt

pub few_styles : (t : TableRecord) (i : ℕ) (palette : ColoursRecord) → IsTable t → slice_get t.palettes i ≡ Some palette → length palette.styles ≤ MOST_STYLES
few_styles t i palette sound there =
    let within : i < length t.palettes = slice_get_within t.palettes i palette there in
    subst (λ (c : ColoursRecord). length c.styles ≤ MOST_STYLES) (get_or_from_slice_get t.palettes i palette palette there) (sound.styles i palette within)
