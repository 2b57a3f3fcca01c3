-- What numbers mean, while keys are added
use Rattle.std.proofs.Common.{◌≡◌, ◌<◌, ◌+◌, zero, suc, ℕ, List, [], ◌∷◌, ◌++◌, Some, length, slice_get, refl, sym, ap, ◌∙◌, subst, inl, inr, arith, zero-add}
use Rattle.std.proofs.lemmas.List.{length_push, get_or_append_left, get_or_push}
use Rattle.xs_pixel.specs.Channels.{Channels}
use Rattle.xs_meaning.specs.Expressions.{Expr, Clear, Pair, Blur, is_clear}
use Rattle.xs_alias.specs.declared.key.Key.{Key}
use Rattle.xs_alias.specs.declared.key.Key.TheVariants as key
use Rattle.xs_alias.specs.Numbers.{IsOver, IsNumbering, Numbers, IsGiven, is_clear_key}
use Rattle.xs_alias.specs.Meanings.{expr_at, stands_for, meanings_after, meanings, meaning}

module _ (tints : List (List Channels)) where
  length-meanings_after : (es : List Expr) (ks : List Key) → length (meanings_after tints es ks) ≡ length es + length ks
  length-meanings_after es [] = omega arith
  length-meanings_after es (k ∷ ks) =
      let rest = length-meanings_after (es ++ stands_for tints es k ∷ []) ks in
      let longer = length_push es (stands_for tints es k) in
      omega arith

  pub length-meanings : (ks : List Key) → length (meanings tints ks) ≡ length ks
  length-meanings ks = let all = length-meanings_after [] ks in omega arith

  -- what stands there stays
  kept : (es : List Expr) (ks : List Key) (n : ℕ) → n < length es → expr_at (meanings_after tints es ks) n ≡ expr_at es n
  kept es [] n here = refl
  kept es (k ∷ ks) n here =
      let longer = length_push es (stands_for tints es k) in
      kept (es ++ stands_for tints es k ∷ []) ks n (omega arith)
      ∙ get_or_append_left es (stands_for tints es k ∷ []) Clear n here

  stands_for-kept :
      (es : List Expr) (ks : List Key) (k : Key) → IsOver (length es) k
      → stands_for tints (meanings_after tints es ks) k ≡ stands_for tints es k
  stands_for-kept es ks key.Clear over = refl
  stands_for-kept es ks (key.Leaf d x y) over = refl
  stands_for-kept es ks (key.Tinted d x y t) over = refl
  stands_for-kept es ks (key.Card p) over = refl
  stands_for-kept es ks (key.Pair op a b) over = λ i. Pair op (kept es ks a over.0 i) (kept es ks b over.1 i)
  stands_for-kept es ks (key.Blur a radius) over = λ i. Blur radius (kept es ks a over i)

  meaning-after :
      (es : List Expr) (ks : List Key) (n : ℕ) (k : Key)
      → ((m : ℕ) (x : Key) → slice_get ks m ≡ Some x → IsOver (length es + m) x) → slice_get ks n ≡ Some k
      → expr_at (meanings_after tints es ks) (length es + n) ≡ stands_for tints (meanings_after tints es ks) k
  meaning-after es [] n k founded at = cc
  meaning-after es (x ∷ ks) zero k founded at =
      let same : x ≡ k = cc in
      let longer = length_push es (stands_for tints es x) in
      let start : length es + 0 ≡ length es = omega arith in
      let over : IsOver (length es) x = subst (λ m. IsOver m x) start (founded 0 x refl) in
      ap (λ m. expr_at (meanings_after tints es (x ∷ ks)) m) start
      ∙ kept (es ++ stands_for tints es x ∷ []) ks (length es) (omega arith)
      ∙ get_or_push es (stands_for tints es x) Clear (length es) refl
      ∙ sym (stands_for-kept es (x ∷ ks) x over)
      ∙ ap (λ y. stands_for tints (meanings_after tints es (x ∷ ks)) y) same
  meaning-after es (x ∷ ks) (suc n) k founded at =
      let longer = length_push es (stands_for tints es x) in
      let next : (m : ℕ) → length es + suc m ≡ length (es ++ stands_for tints es x ∷ []) + m = λ m. omega (arith, longer) in
      ap (λ m. expr_at (meanings_after tints es (x ∷ ks)) m) (next n)
      ∙ meaning-after (es ++ stands_for tints es x ∷ []) ks n k
      (λ m y there. subst (λ j. IsOver j y) (next m) (founded (suc m) y there)) at

  -- a number means what its key stands for
  pub meaning_is :
      (ks : List Key) → IsNumbering ks → (n : ℕ) (k : Key) → slice_get ks n ≡ Some k
      → meaning tints ks n ≡ stands_for tints (meanings tints ks) k
  meaning_is ks numbering n k at =
      subst (λ m. expr_at (meanings tints ks) m ≡ stands_for tints (meanings tints ks) k) (zero-add n)
      (meaning-after [] ks n k (λ m x there. subst (λ j. IsOver j x) (sym (zero-add m)) (numbering.founded m x there)) at)

  meanings_after-append :
      (es : List Expr) (xs ys : List Key)
      → meanings_after tints es (xs ++ ys) ≡ meanings_after tints (meanings_after tints es xs) ys
  meanings_after-append es [] ys = refl
  meanings_after-append es (x ∷ xs) ys = meanings_after-append (es ++ stands_for tints es x ∷ []) xs ys

  -- old numbers keep their meaning
  pub meaning-append :
      (keys more : List Key) (n : ℕ) → n < length keys → meaning tints (keys ++ more) n ≡ meaning tints keys n
  meaning-append keys more n here =
      let all = length-meanings keys in
      ap (λ es. expr_at es n) (meanings_after-append [] keys more) ∙ kept (meanings tints keys) more n (omega arith)

  pub meaning-given :
      (old new : List Key) (m n : ℕ) → IsGiven old new m → n < length old → meaning tints new n ≡ meaning tints old n
  meaning-given old new m n given here =
      elim given.grown [
        | inl same ↦ ap (λ ks. meaning tints ks n) same
        | inr more ↦ ap (λ ks. meaning tints ks n) more.1 ∙ meaning-append old (more.0 ∷ []) n here
      ]

  stands_for-append :
      (keys more : List Key) (k : Key) → IsOver (length keys) k
      → stands_for tints (meanings tints (keys ++ more)) k ≡ stands_for tints (meanings tints keys) k
  stands_for-append keys more k over =
      ap (λ es. stands_for tints es k) (meanings_after-append [] keys more)
      ∙ stands_for-kept (meanings tints keys) more k (subst (λ m. IsOver m k) (sym (length-meanings keys)) over)

  -- the number of a key means what the key stands for over the old keys
  pub meaning-number :
      (old new : List Key) (k : Key) (n : ℕ) → IsNumbering new → IsOver (length old) k → Numbers old new k n
      → meaning tints new n ≡ stands_for tints (meanings tints old) k
  meaning-number old new k n numbering over number =
      meaning_is new numbering n k number.has
      ∙ elim number.grown [
        | inl same ↦ ap (λ ks. stands_for tints (meanings tints ks) k) same
        | inr more ↦ ap (λ ks. stands_for tints (meanings tints ks) k) more.0 ∙ stands_for-append old (k ∷ []) k over
      ]

  is_clear-stands_for : (es : List Expr) (k : Key) → is_clear_key k ≡ is_clear (stands_for tints es k)
  is_clear-stands_for es key.Clear = refl
  is_clear-stands_for es (key.Leaf d x y) = refl
  is_clear-stands_for es (key.Tinted d x y t) = refl
  is_clear-stands_for es (key.Card p) = refl
  is_clear-stands_for es (key.Pair op a b) = refl
  is_clear-stands_for es (key.Blur a radius) = refl

  -- a number means nothing where its key is that of nothing
  pub is_clear-meaning :
      (ks : List Key) → IsNumbering ks → (n : ℕ) (k : Key) → slice_get ks n ≡ Some k
      → is_clear_key k ≡ is_clear (meaning tints ks n)
  is_clear-meaning ks numbering n k at =
      is_clear-stands_for (meanings tints ks) k ∙ ap is_clear (sym (meaning_is ks numbering n k at))
