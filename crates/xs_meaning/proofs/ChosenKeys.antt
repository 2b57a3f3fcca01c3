-- The keys between which a peg stands at a row
use Rattle.std.proofs.Common.{ℕ, ◌≡◌, ◌≤◌, ◌<◌, refl, nat_le, nat_lt, true, Option, Some, None, List, All, IfSome, Contains, MatchOption, filter, le-leb, lt-ltb, leb-true, ltb-true, ⊎_elim, ap, lt_irrefl, lt_of_lt_of_le, le_antisymm}
use Rattle.std.proofs.lemmas.Bool.{cases_lt}
use Rattle.std.proofs.lemmas.List.Elements.{All-filter, All-weaker, All-contains, All-contains_itself, filter_passes}
use Rattle.xs_scene.specs.Records.{PegKeyRecord}
use Rattle.xs_meaning.specs.Places.{key_in_force, key_after}
use Rattle.xs_meaning.specs.Chosen.{IsKeyInForce, IsKeyAfter, HasDistinctRows}
use Rattle.xs_meaning.proofs.KeyLemmas.{latest-has, earliest-has, latest-greatest, earliest-least, latest-none, earliest-none, filter-All, filter-none}

begun : List PegKeyRecord → ℕ → List PegKeyRecord
begun keys row = filter (λ k. nat_le k.row row) keys

pub key_in_force-is :
    (keys : List PegKeyRecord) (row : ℕ)
    → MatchOption (key_in_force keys row) (All (λ k. row < k.row) keys) (IsKeyInForce keys row)
unfolding begun
key_in_force-is keys row =
    chosen (key_in_force keys row) refl
    (latest-has (λ k. Contains keys k × (k.row ≤ row)) (λ k. k.row) (begun keys row)
    (λ i d lt. (
      All-filter (λ k. nat_le k.row row) (Contains keys) keys (All-contains_itself keys) i d lt,
      leb-true _ _ (filter_passes (λ k. nat_le k.row row) keys i d lt),
    )))
    (latest-greatest (λ k. k.row) (begun keys row))
  where
    chosen : (a : Option PegKeyRecord) → key_in_force keys row ≡ a
        → IfSome a (λ k. Contains keys k × (k.row ≤ row)) → IfSome a (λ a. All (λ k. k.row ≤ a.row) (begun keys row))
        → MatchOption a (All (λ k. row < k.row) keys) (IsKeyInForce keys row)
    chosen None is among greatest =
        All-weaker (λ k. nat_le k.row row ≡ true → ⊥) (λ k. row < k.row)
        (λ k no. ⊎_elim (λ lt. lt) (λ le. absurd (no (le-leb k.row row le))) (cases_lt row k.row)) keys
        (filter-none (λ k. nat_le k.row row) keys (latest-none (λ k. k.row) (begun keys row) is))
    chosen (Some a) is among greatest =
        record {
          among = among.0;
          begun = among.1;
          last =
              All-weaker (λ k. nat_le k.row row ≡ true → k.row ≤ a.row) (λ k. k.row ≤ row → k.row ≤ a.row)
              (λ k below le. below (le-leb k.row row le)) keys
              (filter-All (λ k. k.row ≤ a.row) (λ k. nat_le k.row row) keys greatest);
        }

coming : List PegKeyRecord → ℕ → List PegKeyRecord
coming keys row = filter (λ k. nat_lt row k.row) keys

pub key_after-is :
    (keys : List PegKeyRecord) (row : ℕ)
    → MatchOption (key_after keys row) (All (λ k. k.row ≤ row) keys) (IsKeyAfter keys row)
unfolding coming
key_after-is keys row =
    chosen (key_after keys row) refl
    (earliest-has (λ k. Contains keys k × (row < k.row)) (λ k. k.row) (coming keys row)
    (λ i d lt. (
      All-filter (λ k. nat_lt row k.row) (Contains keys) keys (All-contains_itself keys) i d lt,
      ltb-true _ _ (filter_passes (λ k. nat_lt row k.row) keys i d lt),
    )))
    (earliest-least (λ k. k.row) (coming keys row))
  where
    chosen : (b : Option PegKeyRecord) → key_after keys row ≡ b
        → IfSome b (λ k. Contains keys k × (row < k.row)) → IfSome b (λ b. All (λ k. b.row ≤ k.row) (coming keys row))
        → MatchOption b (All (λ k. k.row ≤ row) keys) (IsKeyAfter keys row)
    chosen None is among least =
        All-weaker (λ k. nat_lt row k.row ≡ true → ⊥) (λ k. k.row ≤ row)
        (λ k no. ⊎_elim (λ lt. absurd (no (lt-ltb row k.row lt))) (λ le. le) (cases_lt row k.row)) keys
        (filter-none (λ k. nat_lt row k.row) keys (earliest-none (λ k. k.row) (coming keys row) is))
    chosen (Some b) is among least =
        record {
          among = among.0;
          later = among.1;
          first =
              All-weaker (λ k. nat_lt row k.row ≡ true → b.row ≤ k.row) (λ k. row < k.row → b.row ≤ k.row)
              (λ k above lt. above (lt-ltb row k.row lt)) keys
              (filter-All (λ k. b.row ≤ k.row) (λ k. nat_lt row k.row) keys least);
        }

-- where no two keys have the same row, only one key is the last

pub key_in_force-only :
    (keys : List PegKeyRecord) (row : ℕ) (a : PegKeyRecord) → HasDistinctRows keys → IsKeyInForce keys row a
    → key_in_force keys row ≡ Some a
key_in_force-only keys row a distinct is = same (key_in_force keys row) (key_in_force-is keys row)
  where
    same : (b : Option PegKeyRecord) → MatchOption b (All (λ k. row < k.row) keys) (IsKeyInForce keys row) → b ≡ Some a
    same None later = absurd (lt_irrefl row (lt_of_lt_of_le (All-contains (λ k. row < k.row) keys a later is.among) is.begun))
    same (Some b) chosen =
        ap Some
        (distinct b a chosen.among is.among
        (le_antisymm
        (All-contains (λ k. k.row ≤ row → k.row ≤ a.row) keys b is.last chosen.among chosen.begun)
        (All-contains (λ k. k.row ≤ row → k.row ≤ b.row) keys a chosen.last is.among is.begun)))

pub key_after-only :
    (keys : List PegKeyRecord) (row : ℕ) (b : PegKeyRecord) → HasDistinctRows keys → IsKeyAfter keys row b
    → key_after keys row ≡ Some b
key_after-only keys row b distinct is = same (key_after keys row) (key_after-is keys row)
  where
    same : (a : Option PegKeyRecord) → MatchOption a (All (λ k. k.row ≤ row) keys) (IsKeyAfter keys row) → a ≡ Some b
    same None earlier = absurd (lt_irrefl row (lt_of_lt_of_le is.later (All-contains (λ k. k.row ≤ row) keys b earlier is.among)))
    same (Some a) chosen =
        ap Some
        (distinct a b chosen.among is.among
        (le_antisymm
        (All-contains (λ k. row < k.row → a.row ≤ k.row) keys b chosen.first is.among is.later)
        (All-contains (λ k. row < k.row → b.row ≤ k.row) keys a is.first chosen.among chosen.later)))
