-- Places in a list that goes through an area by rows of w, and what a row put into it changes.
use Rattle.std.proofs.Common.{◌≡◌, ℕ, ◌+◌, ◌-◌, ◌*◌, ◌<◌, ◌≤◌, List, length, get_or, arith}
use Rattle.std.specs.Simd.Lanes.{put_chunk}
use Rattle.std.proofs.Math.Nat.{mul-le-mul_right}
use Rattle.std.proofs.lemmas.Simd.{get_or-put_chunk_below, get_or-put_chunk_at, get_or-put_chunk_above}

-- n items from a place on stay within h rows
pub fits_in_rows : (w h r c n : ℕ) → r < h → c + n ≤ w → r * w + c + n ≤ w * h
fits_in_rows w h r c n in_rows across =
    let rows : (r + 1) * w ≤ h * w = mul-le-mul_right w (omega arith) in omega arith

-- in a lower row every place comes earlier
lower_comes_earlier : (w r c r' c' n : ℕ) → r < r' → c + n ≤ w → r * w + c + n ≤ r' * w + c'
lower_comes_earlier w r c r' c' n lower across =
    let rows : (r + 1) * w ≤ r' * w = mul-le-mul_right w (omega arith) in omega arith

-- where a row was put, its items are found
pub put_found :
    {A : Type 0} (w r c c' : ℕ) (xs ys : List A) (d : A) → c ≤ c' → c' < c + length ys
    → r * w + c + length ys ≤ length xs
    → get_or (put_chunk (r * w + c) xs ys) (r * w + c') d ≡ get_or ys (c' - c) d
put_found w r c c' xs ys d from to room =
    let place : r * w + c' ≡ r * w + c + (c' - c) = omega arith in
    rw place (get_or-put_chunk_at (r * w + c) xs ys (c' - c) d (omega arith) room)

-- below, beside and above that row all is as it was
pub put_below :
    {A : Type 0} (w r c r' c' : ℕ) (xs ys : List A) (d : A) → r' < r → c' < w
    → get_or (put_chunk (r * w + c) xs ys) (r' * w + c') d ≡ get_or xs (r' * w + c') d
put_below w r c r' c' xs ys d below across =
    let earlier = lower_comes_earlier w r' c' r c 1 below (omega arith) in
    get_or-put_chunk_below (r * w + c) xs ys (r' * w + c') d (omega arith)

pub put_left : {A : Type 0} (w r c c' : ℕ) (xs ys : List A) (d : A) → c' < c → get_or (put_chunk (r * w + c) xs ys) (r * w + c') d ≡ get_or xs (r * w + c') d
put_left w r c c' xs ys d left = get_or-put_chunk_below (r * w + c) xs ys (r * w + c') d (omega arith)

pub put_right :
    {A : Type 0} (w r c c' : ℕ) (xs ys : List A) (d : A) → c + length ys ≤ c'
    → get_or (put_chunk (r * w + c) xs ys) (r * w + c') d ≡ get_or xs (r * w + c') d
put_right w r c c' xs ys d right = get_or-put_chunk_above (r * w + c) xs ys (r * w + c') d (omega arith)

pub put_above :
    {A : Type 0} (w r c r' c' : ℕ) (xs ys : List A) (d : A) → r < r' → c + length ys ≤ w
    → get_or (put_chunk (r * w + c) xs ys) (r' * w + c') d ≡ get_or xs (r' * w + c') d
put_above w r c r' c' xs ys d above across =
    let later = lower_comes_earlier w r c r' c' (length ys) above across in
    get_or-put_chunk_above (r * w + c) xs ys (r' * w + c') d (omega arith)
