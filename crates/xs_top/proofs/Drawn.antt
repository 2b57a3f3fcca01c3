-- Files of drawings, the pictures that they show, and drawings one after another.
use Rattle.std.proofs.Common.{◌≡◌, ℕ, ◌+◌, ◌≤◌, Bool, true, false, List, [], ◌∷◌, length, map, nat_lt, if◌then◌else◌, Option, Some, None, refl, sym, ap, ◌∙◌, arith}
use Rattle.std.proofs.lemmas.Bool.Decides.{nat_tests}
use Rattle.xs_base.specs.declared.limits.TheConstants.{DRAWING_LIMIT}
use Rattle.xs_levels.specs.Films.{Files, IsFileOf, palettes_of, file_fault}
use Rattle.xs_levels.specs.Films as films
use Rattle.xs_levels.specs.Table.{table_of, raw_kind_of, palette_number}
use Rattle.xs_outside.specs.Told.{more}
use Rattle.xs_rawfile.specs.Held.{picture_of}
use Rattle.xs_rawfile.specs.Level.{first_fault}
use Rattle.xs_rawfile.specs.Raw.{Raw}
use Rattle.xs_rawfile.specs.declared.fault.LevelCode.{LevelCode}
use Rattle.xs_rawfile.specs.declared.fault.LevelCode.TheVariants as level
use Rattle.xs_scene.specs.Records.{SceneRecord}
use Rattle.xs_top.specs.Causes.{is_lost_level}
use Rattle.xs_top.specs.Drawings.{file_of, kind_of, pictures_of, fault_of, bytes_of}
use Rattle.xs_top.specs.Finished.{IsAccepted}
use Rattle.xs_top.specs.Outcome.{accepted, loading}
use Rattle.xs_top.specs.Refused.{IsRefused}
use Rattle.xs_top.specs.Leaves.{WroteNothing}
use Rattle.xs_top.specs.Trace.{Event, Ask, asks, puts, lines, Outcome, after, Contents, grown}
use Rattle.xs_top.proofs.LevelCodes.{level_kept}
use Rattle.xs_top.proofs.Parts.{more-nothing}

-- the picture of a drawing whose file was read
pub picture_is : (files : Files) (s : SceneRecord) (d : ℕ) (g : Raw) → IsFileOf files (table_of s) d g
    → pictures_of files s d ≡ Some (picture_of (palettes_of (table_of s)) g (palette_number (kind_of s d)))
unfolding films.pictures_of
picture_is files s d g file = rw (file.there, file.numbers, file.accepted, file.drawing) refl

-- ---- the fault of a drawing's file

module _ (files : Files) (s : SceneRecord) (d : ℕ) where
  fault_is : fault_of files s d ≡ file_fault (kind_of s d) (files (file_of s d))
  unfolding films.fault_of
  fault_is = refl

  fault_read : (bytes : List ℕ) → files (file_of s d) ≡ Some bytes → length bytes ≤ DRAWING_LIMIT
      → fault_of files s d ≡ first_fault (raw_kind_of (kind_of s d)) bytes
  fault_read bytes there short =
      let within : nat_lt DRAWING_LIMIT (length bytes) ≡ false = grind (arith, nat_tests) in
      fault_is ∙ (ap (file_fault (kind_of s d)) there ∙ rw within refl)

  pub accepted_none : IsAccepted files s d → fault_of files s d ≡ None
  accepted_none ok = fault_read ok.bytes ok.there ok.short ∙ ok.faultless

  read_refused : (bytes : List ℕ) (code : LevelCode) → files (file_of s d) ≡ Some bytes → length bytes ≤ DRAWING_LIMIT → is_lost_level code ≡ false
      → first_fault (raw_kind_of (kind_of s d)) bytes ≡ Some code → IsRefused files s d code
  read_refused bytes level.Absent there short kept e = absurd (cc)
  read_refused bytes level.TooLong there short kept e = absurd (cc)
  read_refused bytes level.Magic there short kept e = (bytes, there, short, e)
  read_refused bytes level.Kind there short kept e = (bytes, there, short, e)
  read_refused bytes level.KindDiffers there short kept e = (bytes, there, short, e)
  read_refused bytes level.Size there short kept e = (bytes, there, short, e)
  read_refused bytes level.Place there short kept e = (bytes, there, short, e)
  read_refused bytes level.Length there short kept e = (bytes, there, short, e)
  read_refused bytes (level.NotPremultiplied pixel) there short kept e = (bytes, there, short, e)

  -- what a drawing's file is, by its fault
  abbrev Judged : Option LevelCode → Type 0
  Judged None = IsAccepted files s d
  Judged (Some code) = IsRefused files s d code

  judged_bytes : (bytes : List ℕ) → files (file_of s d) ≡ Some bytes → (fault : Option LevelCode) → length bytes ≤ DRAWING_LIMIT
      → first_fault (raw_kind_of (kind_of s d)) bytes ≡ fault → Judged fault
  judged_bytes bytes there None short e = record { bytes = bytes; there = there; short = short; faultless = e }
  judged_bytes bytes there (Some code) short e =
      read_refused bytes code there short (level_kept (raw_kind_of (kind_of s d)) bytes code e) e

  judged_length : (bytes : List ℕ) → files (file_of s d) ≡ Some bytes → (t : Bool) → nat_lt DRAWING_LIMIT (length bytes) ≡ t
      → Judged (if t then Some level.TooLong else first_fault (raw_kind_of (kind_of s d)) bytes)
  judged_length bytes there true is = (bytes, there, grind (arith, nat_tests))
  judged_length bytes there false is = judged_bytes bytes there _ (grind (arith, nat_tests)) refl

  judged_file : (file : Option (List ℕ)) → files (file_of s d) ≡ file → Judged (file_fault (kind_of s d) file)
  judged_file None there = there
  judged_file (Some bytes) there = judged_length bytes there _ refl

  -- a drawing without a fault is accepted, and one with a fault is refused with it
  pub judged : (fault : Option LevelCode) → fault_of files s d ≡ fault → Judged fault
  judged fault e = rw (sym e ∙ fault_is) (judged_file (files (file_of s d)) refl)

  read_fault : (code : LevelCode) → ((bytes : List ℕ) × (files (file_of s d) ≡ Some bytes) × (length bytes ≤ DRAWING_LIMIT)
      × (first_fault (raw_kind_of (kind_of s d)) bytes ≡ Some code)) → fault_of files s d ≡ Some code
  read_fault code r = fault_read r.0 r.1 r.2 ∙ r.3

  pub refused_fault : (code : LevelCode) → IsRefused files s d code → fault_of files s d ≡ Some code
  refused_fault level.Absent none = fault_is ∙ ap (file_fault (kind_of s d)) none
  refused_fault level.TooLong long =
      let past : nat_lt DRAWING_LIMIT (length long.0) ≡ true = grind (arith, nat_tests, long.2) in
      fault_is ∙ (ap (file_fault (kind_of s d)) long.1 ∙ rw past refl)
  refused_fault level.Magic r = read_fault level.Magic r
  refused_fault level.Kind r = read_fault level.Kind r
  refused_fault level.KindDiffers r = read_fault level.KindDiffers r
  refused_fault level.Size r = read_fault level.Size r
  refused_fault level.Place r = read_fault level.Place r
  refused_fault level.Length r = read_fault level.Length r
  refused_fault (level.NotPremultiplied pixel) r = read_fault (level.NotPremultiplied pixel) r

-- ---- drawings one after another

pub loading_none : (files : Files) (s : SceneRecord) (over : ℕ) (next : Outcome) → loading files s over [] next ≡ next
unfolding loading
loading_none files s over next = refl

pub loading_first : (files : Files) (s : SceneRecord) (over d : ℕ) (ds : List ℕ) (next : Outcome)
    → loading files s over (d ∷ ds) next
    ≡ after (Ask (file_of s d) ∷ []) (accepted d (fault_of files s d) (over + bytes_of files s d) (loading files s (over + bytes_of files s d) ds next))
unfolding loading
loading_first files s over d ds next = refl

-- ---- what the requests for drawings tell

abbrev pub asked_of : SceneRecord → ℕ → Event
asked_of s d = Ask (file_of s d)

module _ (s : SceneRecord) where
  pub asks-asked : (ds : List ℕ) → asks (map (asked_of s) ds) ≡ map (file_of s) ds
  asks-asked [] = refl
  asks-asked (d ∷ ds) = ap (λ l. file_of s d ∷ l) (asks-asked ds)

  pub puts-asked : (ds : List ℕ) → puts (map (asked_of s) ds) ≡ []
  puts-asked [] = refl
  puts-asked (d ∷ ds) = puts-asked ds

  pub lines-asked : (ds : List ℕ) → lines (map (asked_of s) ds) ≡ []
  lines-asked [] = refl
  lines-asked (d ∷ ds) = lines-asked ds

  pub told_asks : (before now : Contents) (ds : List ℕ) → now.asked ≡ more before.asked (map (file_of s) ds)
      → WroteNothing before now → now ≡ grown before (map (asked_of s) ds)
  told_asks before now ds asked wrote =
      rw (asks-asked ds, puts-asked ds, lines-asked ds, more-nothing before.shelf, more-nothing before.notes, ← asked, ← wrote.shelf, ← wrote.notes, ← wrote.sum) refl
