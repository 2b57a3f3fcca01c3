-- Laws of a row of bytes seen as words. A place or a count of bytes is four times one of words.
use Rattle.std.proofs.Common.{◌≡◌, ℕ, ◌+◌, ◌*◌, ◌<◌, ◌≤◌, List, [], ◌∷◌, ◌++◌, length, get_or, refl, arith}
use Rattle.std.specs.Simd.Lanes.{chunk, number_l}
use Rattle.xs_base.proofs.ByFours.{ReadsFours, read-append, length-read, read-chunk, read_of_chunk}
use Rattle.xs_cm32.specs.WordRows.{words}

abbrev word : ℕ → ℕ → ℕ → ℕ → ℕ
word a b c d = number_l 256 (a ∷ b ∷ c ∷ d ∷ [])

by_fours : ReadsFours word words
by_fours = record { short = short; four = λ a b c d xs. refl }
  where
    short : (xs : List ℕ) → length xs < 4 → words xs ≡ []
    short [] few = refl
    short (a ∷ []) few = refl
    short (a ∷ b ∷ []) few = refl
    short (a ∷ b ∷ c ∷ []) few = refl
    short (a ∷ b ∷ c ∷ d ∷ xs) few = absurd (omega arith)

-- whole words before more bytes
pub words-append : (n : ℕ) (xs ys : List ℕ) → length xs ≡ 4 * n → words (xs ++ ys) ≡ words xs ++ words ys
words-append = read-append word words by_fours

pub length-words : (n : ℕ) (xs : List ℕ) → length xs ≡ 4 * n → length (words xs) ≡ n
length-words = length-read word words by_fours

pub words-chunk : (i k m n : ℕ) (xs : List ℕ) → i ≡ 4 * k → m ≡ 4 * n → words (chunk i m xs) ≡ chunk k n (words xs)
words-chunk = read-chunk word words by_fours

-- one word, from its four bytes
pub word_of_chunk : (i k : ℕ) (xs : List ℕ) → i ≡ 4 * k → i + 4 ≤ length xs → words (chunk i 4 xs) ≡ get_or (words xs) k 0 ∷ []
word_of_chunk i k xs = read_of_chunk word words by_fours i k xs 0
