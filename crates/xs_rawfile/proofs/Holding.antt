-- What a drawing that is set changes.
use Rattle.std.proofs.Common.{IfSome, ◌≡◌, ℕ, zero, suc, ◌<◌, Option, Some, None, List, [], ◌∷◌, length, slice_get, slice_set, get_or, IsSome, option_and_then, refl, ap, sym, subst, inl, inr, ◌⊎◌, arith}
use Rattle.std.proofs.lemmas.Bool.{cases_eq}
use Rattle.std.proofs.lemmas.Option.{slice_get_read}
use Rattle.xs_pixel.specs.Channels.{Channels}
use Rattle.xs_pixel.specs.Picture.{Picture}
use Rattle.xs_rawfile.specs.declared.drawing.RawKind.{RawKind}
use Rattle.xs_rawfile.specs.Raw.{Raw, IsRaw}
use Rattle.xs_rawfile.specs.Held.{Held, held, IsIn, IsHeld, HasItsPalette, picture_of}

-- a written item is read back, and every other stays
slice_get-set_same : {A : Type 0} (xs : List A) (i : ℕ) (x y : A) → slice_get (slice_set xs i x) i ≡ Some y → x ≡ y
slice_get-set_same [] i x y h = absurd cc
slice_get-set_same (z ∷ xs) zero x y h = cc
slice_get-set_same (z ∷ xs) (suc i) x y h = slice_get-set_same xs i x y h

slice_get-set_other : {A : Type 0} (xs : List A) (i j : ℕ) (x : A) → (i ≡ j → ⊥) → slice_get (slice_set xs i x) j ≡ slice_get xs j
slice_get-set_other [] i j x other = refl
slice_get-set_other (z ∷ xs) zero zero x other = absurd (other refl)
slice_get-set_other (z ∷ xs) zero (suc j) x other = refl
slice_get-set_other (z ∷ xs) (suc i) zero x other = refl
slice_get-set_other (z ∷ xs) (suc i) (suc j) x other = slice_get-set_other xs i j x (λ same. other (omega arith))

-- what is held after a set is the new drawing, or was held before
held_after_set :
    (h : Held) (d e : ℕ) (g g' : Raw) (palette palette' : Option ℕ)
    → IsIn (held (slice_set h.slots d (Some (g, palette))) h.palettes) e g' palette'
    → ((d ≡ e) × (g ≡ g') × (palette ≡ palette')) ⊎ IsIn h e g' palette'
held_after_set h d e g g' palette palette' is =
    elim (cases_eq d e) [
      | inl same ↦
          let pair : Some (g, palette) ≡ Some (g', palette') =
          slice_get-set_same h.slots d (Some (g, palette)) (Some (g', palette'))
          (subst (λ (i : ℕ). slice_get (slice_set h.slots d (Some (g, palette))) i ≡ Some (Some (g', palette'))) (sym same) is)
          in
          let both : (g, palette) ≡ (g', palette') = cc in inl (same, ap (λ (q : Raw × Option ℕ). q.0) both, ap (λ (q : Raw × Option ℕ). q.1) both)
      | inr other ↦ inr (rw (slice_get-set_other h.slots d e (Some (g, palette)) other) at is)
    ]

pub set_held :
    (pictures : Option (ℕ → Option Picture)) (h : Held) (d : ℕ) (g : Raw) (palette : Option ℕ)
    → IsHeld pictures h → IsRaw g → HasItsPalette h.palettes g.kind palette
    → ((told : ℕ → Option Picture) → pictures ≡ Some told → told d ≡ Some (picture_of h.palettes g palette))
    → IsHeld pictures (held (slice_set h.slots d (Some (g, palette))) h.palettes)
set_held pictures h d g palette before is_raw names film = record {
  raw = λ e g' palette' is.
      elim (held_after_set h d e g g' palette palette' is) [
        | inl new ↦ subst IsRaw new.1 is_raw
        | inr old ↦ before.raw e g' palette' old
      ];
  named = λ e g' palette' is.
      elim (held_after_set h d e g g' palette palette' is) [
        | inl new ↦
            subst (λ (q : Option ℕ). HasItsPalette h.palettes g'.kind q) new.2
            (subst (λ (r : Raw). HasItsPalette h.palettes r.kind palette) new.1 names)
        | inr old ↦ before.named e g' palette' old
      ];
  filmed = λ told tells e g' palette' is.
      elim (held_after_set h d e g g' palette palette' is) [
        | inl new ↦
            subst (λ (i : ℕ). told i ≡ Some (picture_of h.palettes g' palette')) new.0
            (subst (λ (q : Option ℕ). told d ≡ Some (picture_of h.palettes g' q)) new.2
            (subst (λ (r : Raw). told d ≡ Some (picture_of h.palettes r palette)) new.1 (film told tells)))
        | inr old ↦ before.filmed told tells e g' palette' old
      ];
}

-- what is held after a removal was held before
held_after_remove : (h : Held) (d e : ℕ) (g : Raw) (palette : Option ℕ) → IsIn (held (slice_set h.slots d None) h.palettes) e g palette → IsIn h e g palette
held_after_remove h d e g palette is =
    elim (cases_eq d e) [
      | inl same ↦
          absurd
          (none_is_some
          (slice_get-set_same h.slots d None (Some (g, palette))
          (subst (λ (i : ℕ). slice_get (slice_set h.slots d None) i ≡ Some (Some (g, palette))) (sym same) is)))
      | inr other ↦ rw (slice_get-set_other h.slots d e None other) at is
    ]
  where
    none_is_some : {A : Type 0} {x : A} → None ≡ Some x → ⊥
    none_is_some h = cc

pub remove_held : (pictures : Option (ℕ → Option Picture)) (h : Held) (d : ℕ) → IsHeld pictures h → IsHeld pictures (held (slice_set h.slots d None) h.palettes)
remove_held pictures h d before = record {
  raw = λ e g palette is. before.raw e g palette (held_after_remove h d e g palette is);
  named = λ e g palette is. before.named e g palette (held_after_remove h d e g palette is);
  filmed = λ told tells e g palette is. before.filmed told tells e g palette (held_after_remove h d e g palette is);
}

-- the palette of a drawing that is held exists
pub names_some :
    (palettes : List (List Channels)) (kind : RawKind) (palette : Option ℕ)
    → HasItsPalette palettes kind palette → IfSome palette (λ n. n < length palettes)
names_some palettes kind (Some n) names = names
names_some palettes kind None names = tt

-- a drawing that is held has a number in range
held_in_range :
    (slots : List (Option (Raw × Option ℕ))) (d : ℕ) → IsSome (option_and_then (λ slot. slot) (slice_get slots d))
    → d < length slots
held_in_range [] d h = absurd cc
held_in_range (slot ∷ slots) zero h = omega arith
held_in_range (slot ∷ slots) (suc d) h = let rest = held_in_range slots d h in omega arith

-- what is read under the number of a drawing that is held lies there
pub held_there :
    (slots : List (Option (Raw × Option ℕ))) (d : ℕ) (seen slot : Option (Raw × Option ℕ))
    → IsSome (option_and_then (λ slot. slot) (slice_get slots d)) → seen ≡ get_or slots d seen → seen ≡ slot
    → slice_get slots d ≡ Some slot
held_there slots d seen slot held h is =
    subst (λ (found : Option (Raw × Option ℕ)). slice_get slots d ≡ Some found) is
    (slice_get_read slots (length slots) d seen refl (held_in_range slots d held) h)
