-- The files of the drawings of a generated scene have no fault
use Rattle.std.proofs.Common.{◌≡◌, inl, inr, true, false, sym, subst, ℕ, zero, suc, ◌+◌, ◌*◌, ◌≤◌, ◌<◌, Bool, if◌then◌else◌, Some, None, List, [], ◌∷◌, length, map, get_or, refl, ap, ◌∙◌, arith}
use Rattle.std.specs.List.{range_with_len, flat_map}
use Rattle.std.specs.Option.{option_map}
use Rattle.std.proofs.lemmas.Bool.{cases_lt, le-ltb}
use Rattle.std.proofs.lemmas.List.{get_or_past}
use Rattle.std.proofs.lemmas.List.FromFn.{get_or-map-range_with_len}
use Rattle.xs_base.specs.declared.limits.TheConstants.{DRAWING_LIMIT}
use Rattle.xs_outside.specs.Files.{file_in}
use Rattle.xs_outside.specs.declared.object.Object.{Object}
use Rattle.xs_rawfile.specs.Level.{first_fault, level_bytes, raw_of}
use Rattle.xs_rawfile.specs.Held.{picture_of}
use Rattle.xs_pixel.specs.Channels.{Channels}
use Rattle.xs_pixel.specs.Picture.{Picture}
use Rattle.xs_plan.specs.Needed.{picture_bytes}
use Rattle.xs_rawfile.specs.Raw.{IsRaw, Raw}
use Rattle.xs_rawfile.specs.declared.fault.LevelCode.TheVariants.{TooLong}
use Rattle.xs_scene.specs.declared.level.Kind.{Kind}
use Rattle.xs_scene.specs.declared.level.Kind.TheVariants.{Colour, Cm32}
use Rattle.xs_check.specs.Good.{files_of}
use Rattle.xs_levels.specs.Films.{fault_of, file_fault, palettes_of, picture_in, pictures_of}
use Rattle.xs_levels.specs.Table.{TableRecord, file_of, kind_of, kinds_in, palette_number, raw_kind_of, table_of}
use Rattle.xs_make.specs.Draws.{state_after}
use Rattle.xs_make.specs.Files.{background_from, background_name, background_state, cel_from, cel_name, files_from}
use Rattle.xs_make.specs.Scenes.{made_levels, scene_from}
use Rattle.xs_make.proofs.Found.{cel_found}
use Rattle.xs_make.proofs.Raws.{background_is_raw, cel_is_raw, length-grey_bytes, length-word_bytes}

names_are : files_of made_levels ≡ background_name ∷ map cel_name (range_with_len 0 12)
names_are = refl

kinds_are : flat_map kinds_in made_levels ≡ Colour ∷ map (λ m. Cm32 0) (range_with_len 0 12)
kinds_are = refl

-- the file of each drawing has no fault
abbrev pub FilesAccepted : Type 0
FilesAccepted = (d : Raw) → IsRaw d → first_fault d.kind (level_bytes d) ≡ None

module _ (accepted : FilesAccepted) (seed rows : ℕ) where
  abbrev table : TableRecord
  table = table_of (scene_from seed rows)

  -- the file of a drawing is there, is short enough and has no fault
  abbrev Accepted : ℕ → Type 0
  Accepted d =
      (bytes : List ℕ)
      × (file_in (files_from seed) (file_of table d) ≡ Some bytes)
      × (length bytes ≤ DRAWING_LIMIT)
      × (first_fault (raw_kind_of (kind_of table d)) bytes ≡ None)

  background : Raw
  background = background_from (background_state seed)

  cel : ℕ → Raw
  cel m = cel_from (state_after (background_state seed) (24576 + 12290 * m))

  cel_named : (m : ℕ) → m < 12 → file_of table (suc m) ≡ cel_name m
  unfolding table_of
  cel_named m few =
      ap (λ (names : List (List ℕ)). get_or names (suc m) []) names_are
      ∙ get_or-map-range_with_len cel_name 0 12 m m [] few (omega arith)

  cel_kind : (m : ℕ) → m < 12 → kind_of table (suc m) ≡ Cm32 0
  unfolding table_of
  cel_kind m few =
      ap (λ (kinds : List Kind). get_or kinds (suc m) Colour) kinds_are
      ∙ get_or-map-range_with_len (λ (m : ℕ). let kind : Kind = Cm32 0 in kind) 0 12 m m Colour few (omega arith)

  cel_there : (m : ℕ) → m < 12 → file_in (files_from seed) (file_of table (suc m)) ≡ Some (level_bytes (cel m))
  unfolding cel
  cel_there m few =
      ap (file_in (files_from seed)) (cel_named m few)
      ∙ ap (option_map (λ (file : Object). file.bytes)) (cel_found (background_state seed) m few)

  pub are_accepted : (d : ℕ) → d < 13 → Accepted d
  unfolding table_of background cel
  are_accepted zero few = (
    level_bytes background,
    refl,
    omega (arith, length-grey_bytes (background_state seed) 24576),
    accepted background (background_is_raw (background_state seed)),
  )
  are_accepted (suc m) few =
      let x = state_after (background_state seed) (24576 + 12290 * m) in (
        level_bytes (cel m),
        cel_there m (omega arith),
        omega (arith, length-word_bytes (state_after x 2) 4096),
        ap (λ (kind : Kind). first_fault (raw_kind_of kind) (level_bytes (cel m))) (cel_kind m (omega arith)) ∙ accepted (cel m) (cel_is_raw x),
      )

  pub are_faultless : (d : ℕ) → d < 13 → fault_of (file_in (files_from seed)) table d ≡ None
  unfolding fault_of
  are_faultless d few =
      let (bytes, there, short, faultless) = are_accepted d few in
      ap (file_fault (kind_of table d)) there
      ∙ ap (λ (long : Bool). if long then Some TooLong else first_fault (raw_kind_of (kind_of table d)) bytes)
      (le-ltb DRAWING_LIMIT (length bytes) short)
      ∙ faultless

-- ---- the pictures of the files

-- the file of each drawing holds it
abbrev pub FilesReadBack : Type 0
FilesReadBack = (d : Raw) → IsRaw d → raw_of d.kind (level_bytes d) ≡ d

small_if : (shown : Bool) (p : Picture) → 4 * (p.w * p.h) ≤ 98304 → picture_bytes (if shown then Some p else None) ≤ 98304
small_if true p small = small
small_if false p small = omega arith

small_in :
    FilesReadBack → (palettes : List (List Channels)) (kind : Kind) (d : Raw) → IsRaw d → d.kind ≡ raw_kind_of kind → 4 * (d.w * d.h) ≤ 98304
    → picture_bytes (picture_in palettes kind (level_bytes d)) ≤ 98304
small_in back palettes kind d is same small =
    let held : raw_of (raw_kind_of kind) (level_bytes d) ≡ d = ap (λ k. raw_of k (level_bytes d)) (sym same) ∙ back d is in
    small_if _ (picture_of palettes (raw_of (raw_kind_of kind) (level_bytes d)) (palette_number kind))
    (subst (λ (g : Raw). 4 * (g.w * g.h) ≤ 98304) (sym held) small)

module _ (accepted : FilesAccepted) (back : FilesReadBack) (seed rows : ℕ) where
  unnamed : (d : ℕ) → 13 ≤ d → file_of (table accepted seed rows) d ≡ []
  unfolding table_of
  unnamed d beyond = ap (λ (names : List (List ℕ)). get_or names d []) names_are ∙ get_or_past (background_name ∷ map cel_name (range_with_len 0 12)) d [] beyond

  background_small : picture_bytes (pictures_of (file_in (files_from seed)) (table accepted seed rows) 0) ≤ 98304
  unfolding pictures_of table_of background
  background_small = small_in back (palettes_of (table accepted seed rows)) Colour (background accepted seed rows) (background_is_raw (background_state seed)) refl (omega arith)

  cel_small : (m : ℕ) → m < 12 → picture_bytes (pictures_of (file_in (files_from seed)) (table accepted seed rows) (suc m)) ≤ 98304
  unfolding pictures_of cel
  cel_small m few =
      let x = state_after (background_state seed) (24576 + 12290 * m) in
      rw (cel_there accepted seed rows m few, cel_kind accepted seed rows m few)
      (small_in back (palettes_of (table accepted seed rows)) (Cm32 0) (cel accepted seed rows m) (cel_is_raw x) refl (omega arith))

  beyond_small : (d : ℕ) → 13 ≤ d → picture_bytes (pictures_of (file_in (files_from seed)) (table accepted seed rows) d) ≤ 98304
  unfolding pictures_of
  beyond_small d beyond = rw (unnamed d beyond) (omega arith)

  -- each has at most four bytes for each of 192 by 128 pixels
  pub few_bytes : (d : ℕ) → picture_bytes (pictures_of (file_in (files_from seed)) (table accepted seed rows) d) ≤ 98304
  few_bytes zero = background_small
  few_bytes (suc m) =
      elim (cases_lt m 12) [
        | inl few ↦ cel_small m few
        | inr beyond ↦ beyond_small (suc m) (omega (arith, beyond))
      ]
