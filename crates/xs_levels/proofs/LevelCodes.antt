-- The fault of a level file is never that there is no file, or one too long.
use Rattle.std.proofs.Common.{◌≡◌, ℕ, Bool, true, false, List, [], ◌∷◌, drop, Option, Some, None, option_map, refl, ap, ◌∙◌}
use Rattle.xs_rawfile.specs.declared.drawing.RawKind.{RawKind}
use Rattle.xs_rawfile.specs.declared.drawing.RawKind.TheVariants as raw_kind
use Rattle.xs_rawfile.specs.declared.fault.LevelCode.{LevelCode}
use Rattle.xs_rawfile.specs.declared.fault.LevelCode.TheVariants as code
use Rattle.xs_rawfile.specs.Level.{first_of, first_fault, lacks_magic, has_unknown_kind, has_other_kind, has_wrong_side, has_wrong_place, has_wrong_length}
use Rattle.xs_rawfile.specs.Pixels.{unmultiplied_fault, first_unmultiplied_of}
use Rattle.xs_levels.specs.Loading.{is_lost}

-- none of the codes of some tests is
abbrev AreKept : List (Bool × LevelCode) → Type 0
AreKept [] = Unit {0}
AreKept ((b, test) ∷ rest) = (is_lost test ≡ false) × AreKept rest

first_kept : (tests : List (Bool × LevelCode)) (last : Option LevelCode) (found : LevelCode) → AreKept tests
    → (last ≡ Some found → is_lost found ≡ false) → first_of tests last ≡ Some found → is_lost found ≡ false
first_kept [] last found kept more e = more e
first_kept ((true, test) ∷ rest) last found kept more e = let same : found ≡ test = cc in ap is_lost same ∙ kept.0
first_kept ((false, test) ∷ rest) last found kept more e = first_kept rest last found kept.1 more e

pixel_kept : (pixel : Option ℕ) (found : LevelCode) → option_map (λ p. code.NotPremultiplied p) pixel ≡ Some found → is_lost found ≡ false
pixel_kept None found e = absurd cc
pixel_kept (Some p) found e = let same : found ≡ code.NotPremultiplied p = cc in ap is_lost same

last_kept : (kind : RawKind) (bytes : List ℕ) (found : LevelCode) → unmultiplied_fault kind bytes ≡ Some found → is_lost found ≡ false
last_kept raw_kind.Colour bytes found e = pixel_kept (first_unmultiplied_of bytes) found e
last_kept raw_kind.Cm32 bytes found e = absurd cc

abbrev tests : RawKind → List ℕ → List (Bool × LevelCode)
tests kind bytes =
    (lacks_magic bytes, code.Magic)
    ∷ (has_unknown_kind bytes, code.Kind)
    ∷ (has_other_kind kind bytes, code.KindDiffers)
    ∷ (has_wrong_side bytes, code.Size)
    ∷ (has_wrong_place bytes, code.Place)
    ∷ (has_wrong_length bytes, code.Length)
    ∷ []

pub level_kept : (kind : RawKind) (bytes : List ℕ) (found : LevelCode) → first_fault kind bytes ≡ Some found → is_lost found ≡ false
unfolding first_fault
level_kept kind bytes found e =
    first_kept (tests kind bytes) (unmultiplied_fault kind (drop 21 bytes)) found (refl, (refl, (refl, (refl, (refl, (refl, tt))))))
    (last_kept kind (drop 21 bytes) found) e
