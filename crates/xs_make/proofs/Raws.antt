-- The drawings of a seed are drawings that a file may hold
use Rattle.std.proofs.Common.{◌≡◌, ℕ, zero, suc, ◌+◌, ◌*◌, ◌≤◌, List, length, refl, ◌∙◌, arith}
use Rattle.std.specs.List.{range_with_len, flat_map}
use Rattle.std.specs.Simd.Lanes.{Each1}
use Rattle.std.proofs.lemmas.List.{length-append}
use Rattle.std.proofs.lemmas.Int.{ints}
use Rattle.xs_pixel.specs.Channels.{IsPixel}
use Rattle.xs_pixel.specs.PixelRows.{pixels}
use Rattle.xs_rawfile.specs.Raw.{IsRaw}
use Rattle.xs_rawfile.specs.Level.{four_bytes}
use Rattle.xs_make.specs.Draws.{drawn, state_after}
use Rattle.xs_make.specs.Files.{background_from, cel_from, grey, grey_bytes, word_at, word_bytes}
use Rattle.xs_make.proofs.Drawn.{drawn_below}

-- how long lists of four are together
length-fours : (f : ℕ → List ℕ) → ((k : ℕ) → length (f k) ≡ 4) → (a n : ℕ) → length (flat_map f (range_with_len a n)) ≡ 4 * n
length-fours f four a zero = refl
length-fours f four a (suc n) =
    let rest = length-fours f four (a + 1) n in
    length-append (f a) (flat_map f (range_with_len (a + 1) n)) ∙ omega (arith, four a)

grey_pixels : (f : ℕ → ℕ) → ((k : ℕ) → f k ≤ 255) → (a n : ℕ) → Each1 IsPixel (pixels (flat_map (λ k. grey (f k)) (range_with_len a n)))
grey_pixels f most a zero = tt
grey_pixels f most a (suc n) =
    (record { red = most a; green = most a; blue = most a; top = omega arith }, grey_pixels f most (a + 1) n)

pub length-grey_bytes : (x n : ℕ) → length (grey_bytes x n) ≡ 4 * n
unfolding grey_bytes
length-grey_bytes x n = length-fours (λ k. grey (drawn x k 256)) (λ k. refl) 0 n

fills-grey_bytes : (x n : ℕ) → Each1 IsPixel (pixels (grey_bytes x n))
unfolding grey_bytes
fills-grey_bytes x n = grey_pixels (λ k. drawn x k 256) (λ k. let less = drawn_below x k 256 (omega arith) in omega arith) 0 n

pub length-word_bytes : (x n : ℕ) → length (word_bytes x n) ≡ 4 * n
unfolding word_bytes
length-word_bytes x n = length-fours (λ k. four_bytes (word_at x k)) (λ k. refl) 0 n

pub background_is_raw : (x : ℕ) → IsRaw (background_from x)
background_is_raw x =
    record {
      side_w = (omega arith, omega arith);
      side_h = (omega arith, omega arith);
      place_x = (omega (arith, ints), omega (arith, ints));
      place_y = (omega (arith, ints), omega (arith, ints));
      whole = length-grey_bytes x 24576;
      fills = fills-grey_bytes x 24576;
    }

pub cel_is_raw : (x : ℕ) → IsRaw (cel_from x)
cel_is_raw x =
    let right = drawn_below x 0 64 (omega arith) in
    let up = drawn_below x 1 32 (omega arith) in
    record {
      side_w = (omega arith, omega arith);
      side_h = (omega arith, omega arith);
      place_x = (omega (arith, ints), omega (arith, ints));
      place_y = (omega (arith, ints), omega (arith, ints));
      whole = length-word_bytes (state_after x 2) 4096;
      fills = tt;
    }
