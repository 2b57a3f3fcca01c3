use Rattle.std.proofs.Common.{◌≡◌, ℕ, ◌+◌, ◌*◌, ◌<◌, ◌≤◌, zero, suc, List, [], ◌∷◌, ◌++◌, length, get_or, map, inl, inr, sym, refl, ap, ◌∙◌, arith, length-append}
use Rattle.std.specs.Simd.Lanes.{Each1}
use Rattle.std.specs.List.{range_with_len}
use Rattle.std.proofs.lemmas.Bool.{cases_lt}
use Rattle.std.proofs.lemmas.List.{get_or_past}
use Rattle.std.proofs.lemmas.List.FromFn.{map-range_with_len_more, length-map-range_with_len, get_or-map-range_with_len}
use Rattle.xs_pixel.specs.Channels.{Channels, clear, IsPixel}
use Rattle.xs_pixel.specs.PixelRows.{pixels}
use Rattle.xs_palette.specs.Styles.{style_of}
use Rattle.xs_palette.specs.Table.{IsTable}
use Rattle.xs_palette.proofs.LookUp.{style_of-past}

-- bytes of the pixels that a palette of these styles shows for the numbers below n
pub record Shows (styles : List Channels) (n : ℕ) (bytes : List ℕ) : Type 0 where
  pub count : length bytes ≡ 4 * n
  pub shown : pixels bytes ≡ map (style_of styles) (range_with_len 0 n)
  pub valid : Each1 IsPixel (pixels bytes)

-- what holds of each item of two lists holds of each of the two joined
Each1-append : {A : Type 0} (P : A → Type 0) (us vs : List A) → Each1 P us → Each1 P vs → Each1 P (us ++ vs)
Each1-append P [] vs first second = second
Each1-append P (u ∷ us) vs first second = (first.0, Each1-append P us vs first.1 second)

-- the bytes of one more pixel
pub shows_more :
    (styles : List Channels) (n : ℕ) (bytes more : List ℕ) (p : Channels) → Shows styles n bytes
    → pixels (bytes ++ more) ≡ pixels bytes ++ pixels more → length more ≡ 4 → pixels more ≡ p ∷ []
    → p ≡ style_of styles n → IsPixel p → Shows styles (n + 1) (bytes ++ more)
shows_more styles n bytes more p so_far parts four one is valid =
    let joined : pixels (bytes ++ more) ≡ pixels bytes ++ (p ∷ []) = parts ∙ ap (λ ps. pixels bytes ++ ps) one in
    record {
      count = omega (arith, length-append bytes more, so_far.count);
      shown =
          joined
          ∙ (ap (λ ps. ps ++ (p ∷ [])) so_far.shown
          ∙ (ap (λ q. map (style_of styles) (range_with_len 0 n) ++ (q ∷ [])) is
          ∙ sym (map-range_with_len_more (style_of styles) 0 n n (omega arith))));
      valid = rw joined (Each1-append IsPixel (pixels bytes) (p ∷ []) so_far.valid (valid, tt));
    }

-- the whole table, with one pixel past the last style
pub IsTable-from_Shows :
    (styles : List Channels) (past : ℕ) (bytes : List ℕ) → length styles ≡ past → past ≤ 4096
    → Shows styles (past + 1) bytes → IsTable past bytes
IsTable-from_Shows styles past bytes long few all =
    let at : (id : ℕ) → id < past + 1 → get_or (pixels bytes) id clear ≡ style_of styles id =
    λ id within. ap (λ ps. get_or ps id clear) all.shown ∙ get_or-map-range_with_len (style_of styles) 0 (past + 1) id id clear within (omega arith)
    in
    record {
      whole = all.count;
      few = few;
      valid = all.valid;
      zero_clear = at 0 (omega arith);
      past_clear = at past (omega arith) ∙ style_of-past styles past (omega arith);
    }

-- the table shows for each number what the styles show
pub style_of-table :
    (styles : List Channels) (past : ℕ) (bytes : List ℕ) → length styles ≡ past
    → Shows styles (past + 1) bytes → (id : ℕ) → style_of (pixels bytes) id ≡ style_of styles id
style_of-table styles past bytes long all zero = refl
style_of-table styles past bytes long all (suc id) =
    elim (cases_lt (suc id) (past + 1)) [
      | inl within ↦
          ap (λ ps. get_or ps (suc id) clear) all.shown ∙ get_or-map-range_with_len (style_of styles) 0 (past + 1) (suc id) (suc id) clear within (omega arith)
      | inr beyond ↦
          let table : length (pixels bytes) ≡ past + 1 =
          ap length all.shown ∙ length-map-range_with_len (style_of styles) 0 (past + 1)
          in
          get_or_past (pixels bytes) (suc id) clear (omega arith) ∙ sym (get_or_past styles (suc id) clear (omega arith))
    ]
