use Rattle.std.proofs.Common.{◌≡◌, ℕ, ◌+◌, ◌≤◌, zero, suc, List, length, get_or, min, inl, inr, refl, arith}
use Rattle.std.proofs.lemmas.Bool.{cases_lt}
use Rattle.std.proofs.lemmas.List.{get_or_past}
use Rattle.xs_pixel.specs.Channels.{Channels, clear}
use Rattle.xs_palette.specs.Styles.{style_of}

-- a style stands at the lesser of its number and the last place, if the first and the last pixel are clear
pub look_up :
    (last : ℕ) (styles : List Channels) → length styles ≡ last + 1 → get_or styles 0 clear ≡ clear
    → get_or styles last clear ≡ clear → (id : ℕ) → get_or styles (min id last) clear ≡ style_of styles id
look_up last styles long zero_clear last_clear zero = let at : min 0 last ≡ 0 = omega arith in rw at zero_clear
look_up last styles long zero_clear last_clear (suc id) =
    elim (cases_lt last (suc id)) [
      | inl beyond ↦
          let at : min (suc id) last ≡ last = omega arith in
          let past : get_or styles (suc id) clear ≡ clear = get_or_past styles (suc id) clear (omega arith) in
          rw (at, past) last_clear
      | inr within ↦ let at : min (suc id) last ≡ suc id = omega arith in rw at refl
    ]

-- past the last style there is nothing
pub style_of-past : (styles : List Channels) (id : ℕ) → length styles ≤ id → style_of styles id ≡ clear
style_of-past styles zero past = refl
style_of-past styles (suc id) past = get_or_past styles (suc id) clear past
