-- Lemmas on words: what a word says, and what an atomic step makes of it
use Rattle.std.proofs.Common.{◌≡◌, ◌≢◌, ◌<◌, ◌+◌, ◌-◌, ◌*◌, ◌/◌, ◌%◌, ◌^◌, ℕ, suc, Bool, true, false, refl, ap, ap₂, ◌∙◌, arith, bit_and, bit_or, mod-eq_of_lt}
use Rattle.std.proofs.lemmas.Nat.{and_mask, and_block, or_block, mod_low}
use lib.Bits.{or_zero_r}
use Rattle.xs_core.specs.Counts.{one_if}
use Rattle.xs_word_desk.specs.Words.{Shape, Unclaimed, Taken, GivenUp, Finished, encode, won_in, made_in, lost_in}

-- ---- the shape of a word that is known

one_if-less : (b : Bool) → one_if b < 2
one_if-less true = omega arith
one_if-less false = omega arith

pub unclaimed_of : (s : Shape) → encode s ≡ 0 → s ≡ Unclaimed
unclaimed_of Unclaimed is = refl
unclaimed_of Taken is = absurd (omega arith)
unclaimed_of GivenUp is = absurd (omega arith)
unclaimed_of (Finished turn cleared reads) is = absurd (omega arith)

pub taken_of : (s : Shape) → encode s ≡ 1 → s ≡ Taken
taken_of Unclaimed is = absurd (omega arith)
taken_of Taken is = refl
taken_of GivenUp is = absurd (omega arith)
taken_of (Finished turn cleared reads) is = absurd (omega arith)

pub given_up_of : (s : Shape) → encode s ≡ 2 → s ≡ GivenUp
given_up_of Unclaimed is = absurd (omega arith)
given_up_of Taken is = absurd (omega arith)
given_up_of GivenUp is = refl
given_up_of (Finished turn cleared reads) is = absurd (omega arith)

-- a finished word by its parts
pub record IsFinished (s : Shape) : Type 0 where
  pub turn : Bool
  pub cleared : Bool
  pub reads : ℕ
  pub is : s ≡ Finished turn cleared reads

pub finished_of : (s : Shape) → encode s ≢ 0 → encode s ≢ 1 → encode s ≢ 2 → IsFinished s
finished_of Unclaimed some busy gone = absurd (some refl)
finished_of Taken some busy gone = absurd (busy refl)
finished_of GivenUp some busy gone = absurd (gone refl)
finished_of (Finished turn cleared reads) some busy gone =
    record { turn = turn; cleared = cleared; reads = reads; is = refl }

-- an alias that was won, and neither made nor lost, is taken
pub taken_by_counts : (s : Shape) → made_in s + lost_in s < won_in s → s ≡ Taken
taken_by_counts Unclaimed fewer = absurd (omega arith)
taken_by_counts Taken fewer = refl
taken_by_counts GivenUp fewer = absurd (omega arith)
taken_by_counts (Finished turn cleared reads) fewer = absurd (omega arith)

-- one that was made is finished
pub finished_by_counts : (s : Shape) → 0 < made_in s → IsFinished s
finished_by_counts Unclaimed some = absurd (omega arith)
finished_by_counts Taken some = absurd (omega arith)
finished_by_counts GivenUp some = absurd (omega arith)
finished_by_counts (Finished turn cleared reads) some =
    record { turn = turn; cleared = cleared; reads = reads; is = refl }

-- ---- its parts

pub reads_of_word :
    (turn cleared : Bool) (reads : ℕ) → encode (Finished turn cleared reads) / 16 ≡ reads
reads_of_word turn cleared reads = omega (arith, one_if-less turn, one_if-less cleared)

pub turn_of_word :
    (turn cleared : Bool) (reads : ℕ) → encode (Finished turn cleared reads) / 4 % 2 ≡ one_if turn
turn_of_word turn cleared reads = omega (arith, one_if-less turn, one_if-less cleared)

pub cleared_of_word :
    (turn cleared : Bool) (reads : ℕ) → encode (Finished turn cleared reads) / 8 % 2 ≡ one_if cleared
cleared_of_word turn cleared reads = omega (arith, one_if-less turn, one_if-less cleared)

-- ---- steps

-- a bit that is set among the low four bits
or_low :
    (n low bit out x y : ℕ) → low < 16 → bit < 16 → bit_or low bit ≡ out → x ≡ n * 16 + low → y ≡ n * 16 + out
    → bit_or x bit ≡ y
or_low n low bit out x y small few sets is becomes =
    let parts : x ≡ n * 2 ^ 4 + low = omega (arith, is) in
    let alone : bit ≡ 0 * 2 ^ 4 + bit = omega arith in
    ap₂ bit_or parts alone ∙ or_block 4 n 0 low bit small few
    ∙ ap₂ (λ a b. a * 2 ^ 4 + b) (or_zero_r n) sets ∙ omega (arith, becomes)

pub turn_set :
    (turn cleared : Bool) (reads : ℕ)
    → bit_or (encode (Finished turn cleared reads)) 4 ≡ encode (Finished true cleared reads)
turn_set true true reads = or_low reads 15 4 15 _ _ (omega arith) (omega arith) refl (omega arith) (omega arith)
turn_set true false reads = or_low reads 7 4 7 _ _ (omega arith) (omega arith) refl (omega arith) (omega arith)
turn_set false true reads = or_low reads 11 4 15 _ _ (omega arith) (omega arith) refl (omega arith) (omega arith)
turn_set false false reads = or_low reads 3 4 7 _ _ (omega arith) (omega arith) refl (omega arith) (omega arith)

pub cleared_set :
    (turn cleared : Bool) (reads : ℕ)
    → bit_or (encode (Finished turn cleared reads)) 8 ≡ encode (Finished turn true reads)
cleared_set true true reads = or_low reads 15 8 15 _ _ (omega arith) (omega arith) refl (omega arith) (omega arith)
cleared_set true false reads = or_low reads 7 8 15 _ _ (omega arith) (omega arith) refl (omega arith) (omega arith)
cleared_set false true reads = or_low reads 11 8 11 _ _ (omega arith) (omega arith) refl (omega arith) (omega arith)
cleared_set false false reads = or_low reads 3 8 11 _ _ (omega arith) (omega arith) refl (omega arith) (omega arith)

-- every bit of a word but the one of value 4
abbrev pub all_but_turn : ℕ
all_but_turn = 18446744073709551611

and_low :
    (n low out x y : ℕ) → low < 16 → bit_and low 11 ≡ out → x ≡ n * 16 + low → y ≡ n * 16 + out → x < 2 ^ 64
    → bit_and x all_but_turn ≡ y
and_low n low out x y small keeps is becomes wide =
    let parts : x ≡ n * 2 ^ 4 + low = omega (arith, is) in
    let mask : all_but_turn ≡ (2 ^ 60 - 1) * 2 ^ 4 + 11 = refl in
    let high : n < 2 ^ 60 = omega (arith, is) in
    ap₂ bit_and parts mask ∙ and_block 4 n (2 ^ 60 - 1) low 11 small (omega arith)
    ∙ ap₂ (λ a b. a * 2 ^ 4 + b) (and_mask n 60 ∙ mod-eq_of_lt high) keeps ∙ omega (arith, becomes)

pub turn_given :
    (turn cleared : Bool) (reads : ℕ) → encode (Finished turn cleared reads) < 2 ^ 64
    → bit_and (encode (Finished turn cleared reads)) all_but_turn ≡ encode (Finished false cleared reads)
turn_given true true reads wide = and_low reads 15 11 _ _ (omega arith) refl (omega arith) (omega arith) wide
turn_given true false reads wide = and_low reads 7 3 _ _ (omega arith) refl (omega arith) (omega arith) wide
turn_given false true reads wide = and_low reads 11 11 _ _ (omega arith) refl (omega arith) (omega arith) wide
turn_given false false reads wide = and_low reads 3 3 _ _ (omega arith) refl (omega arith) (omega arith) wide

-- one read less, by a sum that wraps
pub read_less :
    (turn cleared : Bool) (reads : ℕ) → encode (Finished turn cleared (suc reads)) < 2 ^ 64
    → (encode (Finished turn cleared (suc reads)) + (2 ^ 64 - 16)) % 2 ^ 64 ≡ encode (Finished turn cleared reads)
read_less turn cleared reads wide =
    let less : encode (Finished turn cleared reads) < 2 ^ 64 = omega (arith, wide) in
    let once : encode (Finished turn cleared (suc reads)) + (2 ^ 64 - 16) ≡ 1 * 2 ^ 64 + encode (Finished turn cleared reads) = omega arith in
    ap (λ n. n % 2 ^ 64) once ∙ mod_low 1 64 (encode (Finished turn cleared reads)) less

-- a word of so many reads fits
pub finished_fits : (reads : ℕ) → reads < 2 ^ 32 → encode (Finished false false reads) < 2 ^ 64
finished_fits reads few = omega (arith, few)
