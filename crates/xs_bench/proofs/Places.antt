-- Places in a list that goes through an area by rows of w, and what a row put into it changes.
use Rattle.std.proofs.Common.{◌≡◌, ℕ, ◌+◌, ◌-◌, ◌*◌, ◌<◌, ◌≤◌, List, length, get_or, refl, ap, ◌∙◌, inl, inr, arith}
use Rattle.std.specs.Simd.Lanes.{chunk, put_chunk}
use Rattle.std.proofs.Math.Nat.{mul-le-mul_left, mul-le-mul_right}
use Rattle.std.proofs.lemmas.Bool.{cases_lt}
use Rattle.std.proofs.lemmas.Simd.{get_or-chunk, get_or-put_chunk_below, get_or-put_chunk_at, get_or-put_chunk_above}
use Rattle.xs_bench.specs.declared.shared.Shared.{Shared}
use Rattle.xs_bench.specs.Cells.{Copied}

-- in a lower row every place comes earlier
lower_comes_earlier : (w r c r' c' n : ℕ) → r < r' → c + n ≤ w → r * w + c + n ≤ r' * w + c'
lower_comes_earlier w r c r' c' n lower across =
    let rows : (r + 1) * w ≤ r' * w = mul-le-mul_right w (omega arith) in omega arith

-- a row of so many rows ends within them
pub row_fits : (w r c n rows all : ℕ) → r < rows → c + n ≤ w → rows * w ≤ all → r * w + c + n ≤ all
row_fits w r c n rows all below across fits =
    let step : (r + 1) * w ≤ rows * w = mul-le-mul_right w (omega arith) in omega arith

-- so many rows with something in them are no more than what they hold
pub rows_below : (n w all : ℕ) → 0 < w → n * w ≤ all → n ≤ all
rows_below n w all some fits = let least : n * 1 ≤ n * w = mul-le-mul_left n some in omega arith

-- where a row was put, its items are found
put_found :
    (w r c c' : ℕ) (xs ys : List ℕ) → c ≤ c' → c' < c + length ys → r * w + c + length ys ≤ length xs
    → get_or (put_chunk (r * w + c) xs ys) (r * w + c') 0 ≡ get_or ys (c' - c) 0
put_found w r c c' xs ys from to room =
    let place : r * w + c' ≡ r * w + c + (c' - c) = omega arith in
    rw place (get_or-put_chunk_at (r * w + c) xs ys (c' - c) 0 (omega arith) room)

-- below, beside and above that row all is as it was
put_below : (w r c r' c' : ℕ) (xs ys : List ℕ) → r' < r → c' < w → get_or (put_chunk (r * w + c) xs ys) (r' * w + c') 0 ≡ get_or xs (r' * w + c') 0
put_below w r c r' c' xs ys below across =
    let earlier = lower_comes_earlier w r' c' r c 1 below (omega arith) in
    get_or-put_chunk_below (r * w + c) xs ys (r' * w + c') 0 (omega arith)

put_left : (w r c c' : ℕ) (xs ys : List ℕ) → c' < c → get_or (put_chunk (r * w + c) xs ys) (r * w + c') 0 ≡ get_or xs (r * w + c') 0
put_left w r c c' xs ys left = get_or-put_chunk_below (r * w + c) xs ys (r * w + c') 0 (omega arith)

put_right : (w r c c' : ℕ) (xs ys : List ℕ) → c + length ys ≤ c' → get_or (put_chunk (r * w + c) xs ys) (r * w + c') 0 ≡ get_or xs (r * w + c') 0
put_right w r c c' xs ys right = get_or-put_chunk_above (r * w + c) xs ys (r * w + c') 0 (omega arith)

put_above :
    (w r c r' c' : ℕ) (xs ys : List ℕ) → r < r' → c + length ys ≤ w
    → get_or (put_chunk (r * w + c) xs ys) (r' * w + c') 0 ≡ get_or xs (r' * w + c') 0
put_above w r c r' c' xs ys above across =
    let later = lower_comes_earlier w r c r' c' (length ys) above across in
    get_or-put_chunk_above (r * w + c) xs ys (r' * w + c') 0 (omega arith)

-- ---- rows that are copied

pub copied_none : (from : List ℕ) (from_w to_w : ℕ) (across up : Shared) (to : List ℕ) → Copied from from_w to_w across up 0 to to
copied_none from from_w to_w across up to = record { inside = λ r c is. absurd (omega (arith, is.0, is.1)); outside = λ r c below no. refl }

-- one row more
pub copied_more :
    (from : List ℕ) (from_w to_w : ℕ) (across up : Shared) (row : ℕ) (old mid new part : List ℕ) → Copied from from_w to_w across up row old mid
    → across.at + across.len ≤ to_w → (up.at + row) * to_w + across.at + across.len ≤ length mid
    → part ≡ chunk ((up.from + row) * from_w + across.from) across.len from → length part ≡ across.len
    → new ≡ put_chunk ((up.at + row) * to_w + across.at) mid part → Copied from from_w to_w across up (row + 1) old new
copied_more from from_w to_w across up row old mid new part before fits room is long puts = record {
  inside = λ r c shared.
      ap (λ (l : List ℕ). get_or l (r * to_w + c) 0) puts
      ∙ elim (cases_lt r (up.at + row)) [
        | inl lower ↦
            put_below to_w (up.at + row) across.at r c mid part lower (omega (arith, shared.3))
            ∙ before.inside r c (shared.0, lower, shared.2, shared.3)
        | inr not_lower ↦
            let here : r ≡ up.at + row = omega (arith, shared.1) in
            let line : r - up.at ≡ row = omega arith in
            rw (line, here)
            (put_found to_w (up.at + row) across.at c mid part shared.2 (omega (arith, shared.3)) (omega arith)
            ∙ ap (λ (l : List ℕ). get_or l (c - across.at) 0) is
            ∙ get_or-chunk ((up.from + row) * from_w + across.from) across.len from (c - across.at) 0 (omega (arith, shared.2, shared.3))
            ∙ ap (λ (k : ℕ). get_or from k 0) (omega arith))
      ];
  outside = λ r c below apart.
      ap (λ (l : List ℕ). get_or l (r * to_w + c) 0) puts
      ∙ elim (cases_lt r (up.at + row)) [
        | inl lower ↦
            put_below to_w (up.at + row) across.at r c mid part lower below
            ∙ before.outside r c below (λ shared. apart (shared.0, omega (arith, shared.1), shared.2, shared.3))
        | inr not_lower ↦ elim (cases_lt (up.at + row) r) [
          | inl higher ↦
              put_above to_w (up.at + row) across.at r c mid part higher (omega arith)
              ∙ before.outside r c below (λ shared. omega (arith, shared.1))
          | inr not_higher ↦
              let here : r ≡ up.at + row = omega arith in
              rw here (elim (cases_lt c across.at) [
                | inl left ↦
                    put_left to_w (up.at + row) across.at c mid part left
                    ∙ before.outside (up.at + row) c below (λ shared. omega (arith, shared.1))
                | inr not_left ↦ elim (cases_lt c (across.at + across.len)) [
                  | inl on ↦ absurd (apart (omega arith, omega arith, not_left, on))
                  | inr right ↦
                      put_right to_w (up.at + row) across.at c mid part (omega arith)
                      ∙ before.outside (up.at + row) c below (λ shared. omega (arith, shared.1))
                ]
              ])
        ]
      ];
}
