-- Laws of a row that is read four by four. A place or a count in the row is four times one in what is read.
use Rattle.std.proofs.Common.{◌≡◌, ℕ, ◌+◌, ◌-◌, ◌*◌, ◌<◌, ◌≤◌, zero, suc, List, [], ◌∷◌, ◌++◌, length, take, drop, get_or, refl, sym, ap, ◌∙◌, arith}
use Rattle.std.specs.Simd.Lanes.{chunk}

-- each four numbers of a row make one item, and what is short of four at the end makes none
pub record ReadsFours {A : Type 0} (item : ℕ → ℕ → ℕ → ℕ → A) (read : List ℕ → List A) : Type 0 where
  pub short : (xs : List ℕ) → length xs < 4 → read xs ≡ []
  pub four : (a b c d : ℕ) (xs : List ℕ) → read (a ∷ b ∷ c ∷ d ∷ xs) ≡ item a b c d ∷ read xs

module _ {A : Type 0} (item : ℕ → ℕ → ℕ → ℕ → A) (read : List ℕ → List A) (reads : ReadsFours item read) where
  -- whole items before more numbers
  pub read-append : (n : ℕ) (xs ys : List ℕ) → length xs ≡ 4 * n → read (xs ++ ys) ≡ read xs ++ read ys
  read-append n [] ys whole = ap (λ l. l ++ read ys) (sym (reads.short [] (omega arith)))
  read-append n (a ∷ []) ys whole = absurd (omega arith)
  read-append n (a ∷ b ∷ []) ys whole = absurd (omega arith)
  read-append n (a ∷ b ∷ c ∷ []) ys whole = absurd (omega arith)
  read-append n (a ∷ b ∷ c ∷ d ∷ xs) ys whole =
      reads.four a b c d (xs ++ ys)
      ∙ ap (λ l. item a b c d ∷ l) (read-append (n - 1) xs ys (omega arith))
      ∙ ap (λ l. l ++ read ys) (sym (reads.four a b c d xs))

  pub length-read : (n : ℕ) (xs : List ℕ) → length xs ≡ 4 * n → length (read xs) ≡ n
  length-read n [] whole = omega (arith, ap length (reads.short [] (omega arith)))
  length-read n (a ∷ []) whole = absurd (omega arith)
  length-read n (a ∷ b ∷ []) whole = absurd (omega arith)
  length-read n (a ∷ b ∷ c ∷ []) whole = absurd (omega arith)
  length-read n (a ∷ b ∷ c ∷ d ∷ xs) whole =
      omega (arith, ap length (reads.four a b c d xs), length-read (n - 1) xs (omega arith))

  read-take : (i k : ℕ) (xs : List ℕ) → i ≡ 4 * k → read (take i xs) ≡ take k (read xs)
  read-take zero zero xs at = reads.short [] (omega arith)
  read-take zero (suc k) xs at = absurd (omega arith)
  read-take (suc zero) k xs at = absurd (omega arith)
  read-take (suc (suc zero)) k xs at = absurd (omega arith)
  read-take (suc (suc (suc zero))) k xs at = absurd (omega arith)
  read-take (suc (suc (suc (suc i)))) zero xs at = absurd (omega arith)
  read-take (suc (suc (suc (suc i)))) (suc k) [] at = rw (reads.short [] (omega arith)) refl
  read-take (suc (suc (suc (suc i)))) (suc k) (a ∷ []) at = rw (reads.short (a ∷ []) (omega arith)) refl
  read-take (suc (suc (suc (suc i)))) (suc k) (a ∷ b ∷ []) at = rw (reads.short (a ∷ b ∷ []) (omega arith)) refl
  read-take (suc (suc (suc (suc i)))) (suc k) (a ∷ b ∷ c ∷ []) at = rw (reads.short (a ∷ b ∷ c ∷ []) (omega arith)) refl
  read-take (suc (suc (suc (suc i)))) (suc k) (a ∷ b ∷ c ∷ d ∷ xs) at =
      reads.four a b c d (take i xs)
      ∙ ap (λ l. item a b c d ∷ l) (read-take i k xs (omega arith))
      ∙ ap (take (suc k)) (sym (reads.four a b c d xs))

  pub read-drop : (i k : ℕ) (xs : List ℕ) → i ≡ 4 * k → read (drop i xs) ≡ drop k (read xs)
  read-drop zero zero xs at = refl
  read-drop zero (suc k) xs at = absurd (omega arith)
  read-drop (suc zero) k xs at = absurd (omega arith)
  read-drop (suc (suc zero)) k xs at = absurd (omega arith)
  read-drop (suc (suc (suc zero))) k xs at = absurd (omega arith)
  read-drop (suc (suc (suc (suc i)))) zero xs at = absurd (omega arith)
  read-drop (suc (suc (suc (suc i)))) (suc k) [] at = rw (reads.short [] (omega arith)) refl
  read-drop (suc (suc (suc (suc i)))) (suc k) (a ∷ []) at =
      rw (reads.short [] (omega arith), reads.short (a ∷ []) (omega arith)) refl
  read-drop (suc (suc (suc (suc i)))) (suc k) (a ∷ b ∷ []) at =
      rw (reads.short [] (omega arith), reads.short (a ∷ b ∷ []) (omega arith)) refl
  read-drop (suc (suc (suc (suc i)))) (suc k) (a ∷ b ∷ c ∷ []) at =
      rw (reads.short [] (omega arith), reads.short (a ∷ b ∷ c ∷ []) (omega arith)) refl
  read-drop (suc (suc (suc (suc i)))) (suc k) (a ∷ b ∷ c ∷ d ∷ xs) at =
      read-drop i k xs (omega arith) ∙ ap (drop (suc k)) (sym (reads.four a b c d xs))

  pub read-chunk : (i k m n : ℕ) (xs : List ℕ) → i ≡ 4 * k → m ≡ 4 * n → read (chunk i m xs) ≡ chunk k n (read xs)
  read-chunk i k m n xs at long = read-take m n (drop i xs) long ∙ ap (take n) (read-drop i k xs at)

  -- one item, from its four numbers
  pub read_of_chunk : (i k : ℕ) (xs : List ℕ) (e : A) → i ≡ 4 * k → i + 4 ≤ length xs → read (chunk i 4 xs) ≡ get_or (read xs) k e ∷ []
  read_of_chunk zero zero (a ∷ b ∷ c ∷ d ∷ xs) e at room =
      rw (reads.four a b c d [], reads.four a b c d xs, reads.short [] (omega arith)) refl
  read_of_chunk zero (suc k) xs e at room = absurd (omega arith)
  read_of_chunk (suc zero) k xs e at room = absurd (omega arith)
  read_of_chunk (suc (suc zero)) k xs e at room = absurd (omega arith)
  read_of_chunk (suc (suc (suc zero))) k xs e at room = absurd (omega arith)
  read_of_chunk (suc (suc (suc (suc i)))) zero xs e at room = absurd (omega arith)
  read_of_chunk (suc (suc (suc (suc i)))) (suc k) (a ∷ b ∷ c ∷ d ∷ xs) e at room =
      read_of_chunk i k xs e (omega arith) (omega arith) ∙ ap (λ l. get_or l (suc k) e ∷ []) (sym (reads.four a b c d xs))
  read_of_chunk i k [] e at room = absurd (omega arith)
  read_of_chunk i k (a ∷ []) e at room = absurd (omega arith)
  read_of_chunk i k (a ∷ b ∷ []) e at room = absurd (omega arith)
  read_of_chunk i k (a ∷ b ∷ c ∷ []) e at room = absurd (omega arith)

-- what holds of two empty rows, and of two rows with four numbers more each where it holds without them, holds
-- of two rows of n fours
pub both_by_fours :
    (P : ℕ → List ℕ → List ℕ → Type 0) → P zero [] []
    → ((n a b c d a' b' c' d' : ℕ) (xs ys : List ℕ) → P n xs ys → P (suc n) (a ∷ b ∷ c ∷ d ∷ xs) (a' ∷ b' ∷ c' ∷ d' ∷ ys))
    → (n : ℕ) (xs ys : List ℕ) → length xs ≡ 4 * n → length ys ≡ 4 * n → P n xs ys
both_by_fours P none more zero [] [] first second = none
both_by_fours P none more zero [] (y ∷ ys) first second = absurd (omega arith)
both_by_fours P none more zero (x ∷ xs) ys first second = absurd (omega arith)
both_by_fours P none more (suc n) [] ys first second = absurd (omega arith)
both_by_fours P none more (suc n) (a ∷ []) ys first second = absurd (omega arith)
both_by_fours P none more (suc n) (a ∷ b ∷ []) ys first second = absurd (omega arith)
both_by_fours P none more (suc n) (a ∷ b ∷ c ∷ []) ys first second = absurd (omega arith)
both_by_fours P none more (suc n) (a ∷ b ∷ c ∷ d ∷ xs) [] first second = absurd (omega arith)
both_by_fours P none more (suc n) (a ∷ b ∷ c ∷ d ∷ xs) (e ∷ []) first second = absurd (omega arith)
both_by_fours P none more (suc n) (a ∷ b ∷ c ∷ d ∷ xs) (e ∷ f ∷ []) first second = absurd (omega arith)
both_by_fours P none more (suc n) (a ∷ b ∷ c ∷ d ∷ xs) (e ∷ f ∷ g ∷ []) first second = absurd (omega arith)
both_by_fours P none more (suc n) (a ∷ b ∷ c ∷ d ∷ xs) (e ∷ f ∷ g ∷ h ∷ ys) first second =
    more n a b c d e f g h xs ys (both_by_fours P none more n xs ys (omega arith) (omega arith))
