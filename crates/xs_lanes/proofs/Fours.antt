-- Four pixels or four words one after another.
use Rattle.std.proofs.Common.{◌≡◌, ℕ, ◌+◌, ◌-◌, ◌*◌, ◌≤◌, List, [], ◌∷◌, ◌++◌, length, take, drop, map, replicate, refl, sym, ap, ◌∙◌, arith, length-append}
use Rattle.std.specs.Simd.Lanes.{chunk}
use Rattle.std.proofs.Math.Seq.{take-add}
use Rattle.std.proofs.lemmas.List.{drop-drop, take-map, drop-map, take-replicate, drop-replicate}
use Rattle.std.proofs.lemmas.Simd.{length-chunk}
use Rattle.xs_pixel.specs.Channels.{Channels}
use Rattle.xs_pixel.specs.PixelRows.{pixels}
use Rattle.xs_pixel.proofs.PixelRowLemmas.{pixels-append}
use Rattle.xs_cm32.specs.WordRows.{words}
use Rattle.xs_cm32.proofs.WordRows.{words-append, words-chunk}

chunk-add : (i m n : ℕ) (xs : List ℕ) → chunk i (m + n) xs ≡ chunk i m xs ++ chunk (i + m) n xs
chunk-add i m n xs = take-add m n (drop i xs) ∙ ap (λ ys. chunk i m xs ++ take n ys) (drop-drop m i xs)

-- a word before others
words_next :
    (i m : ℕ) (xs : List ℕ) (w : ℕ) (others : List ℕ) → i + (4 + m) ≤ length xs
    → words (chunk i 4 xs) ≡ w ∷ [] → words (chunk (i + 4) m xs) ≡ others
    → words (chunk i (4 + m) xs) ≡ w ∷ others
words_next i m xs w others room first rest =
    ap words (chunk-add i 4 m xs) ∙ (words-append 1 (chunk i 4 xs) (chunk (i + 4) m xs) (length-chunk i 4 xs (omega arith)) ∙ rw (first, rest) refl)

pub four_words :
    (i : ℕ) (xs : List ℕ) (a b c d : ℕ) → i + 16 ≤ length xs → words (chunk i 4 xs) ≡ a ∷ []
    → words (chunk (i + 4) 4 xs) ≡ b ∷ [] → words (chunk (i + 8) 4 xs) ≡ c ∷ []
    → words (chunk (i + 12) 4 xs) ≡ d ∷ [] → words (chunk i 16 xs) ≡ a ∷ b ∷ c ∷ d ∷ []
four_words i xs a b c d room first second third fourth =
    let from : (j k : ℕ) → i + j + k ≡ i + (j + k) = λ j k. omega arith in
    let two = words_next (i + 8) 4 xs c (d ∷ []) (omega arith) third (rw (from 8 4) fourth) in
    let three = words_next (i + 4) 8 xs b (c ∷ d ∷ []) (omega arith) second (rw (from 4 4) two) in
    words_next i 12 xs a (b ∷ c ∷ d ∷ []) (omega arith) first three

pub four_pixels :
    (a b c d : List ℕ) (p q r s : Channels) → length a ≡ 4 → length b ≡ 4 → length c ≡ 4 → length d ≡ 4
    → pixels a ≡ p ∷ [] → pixels b ≡ q ∷ [] → pixels c ≡ r ∷ [] → pixels d ≡ s ∷ []
    → pixels ((a ++ b) ++ (c ++ d)) ≡ p ∷ q ∷ r ∷ s ∷ []
four_pixels a b c d p q r s la lb lc ld first second third fourth =
    let two : pixels (a ++ b) ≡ p ∷ q ∷ [] = pixels-append 1 a b la ∙ rw (first, second) refl in
    let more : pixels (c ++ d) ≡ r ∷ s ∷ [] = pixels-append 1 c d lc ∙ rw (third, fourth) refl in
    let long : length (a ++ b) ≡ 8 = omega (arith, length-append a b) in
    pixels-append 2 (a ++ b) (c ++ d) long ∙ rw (two, more) refl

-- the colours of a part of a row of words are that part of its colours
pub part_of_map : (f : ℕ → Channels) (i k m n : ℕ) (row : List ℕ) → i ≡ 4 * k → m ≡ 4 * n → map f (words (chunk i m row)) ≡ chunk k n (map f (words row))
part_of_map f i k m n row at long =
    ap (map f) (words-chunk i k m n row at long) ∙ sym (ap (take n) (drop-map f k (words row)) ∙ take-map f n (drop k (words row)))

-- a part of equal pixels
pub part_of_replicate : (k n all : ℕ) (p : Channels) → k + n ≤ all → replicate n p ≡ chunk k n (replicate all p)
part_of_replicate k n all p room =
    sym (ap (take n) (drop-replicate k all p) ∙ take-replicate n (all - k) p (omega arith))
