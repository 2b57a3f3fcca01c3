-- The best of the keys of a peg that pass a test, where they are gone through
use Rattle.std.proofs.Common.{◌≡◌, ℕ, ◌+◌, ◌<◌, subst, Bool, true, false, cond, ltb, length, take, get_or, List, [], ◌∷◌, ◌++◌, IfSome, Option, Some, None, filter, sym, ap, ◌∙◌}
use Rattle.std.proofs.lemmas.Bool.{cond_both}
use Rattle.std.proofs.lemmas.List.{get_or_default}
use Rattle.xs_scene.specs.Records.{PegKeyRecord}
use Rattle.xs_meaning.specs.Keys.{newest, nearest}
use Rattle.xs_meaning.proofs.KeyLemmas.{choice-more}

-- what holds of the best of some keys and of one more holds of the better of the two
pub newest-has : {K : Type 0} (row : K → ℕ) (P : K → Type 0) (best : Option K) (k : K) → IfSome best P → P k → P (newest row best k)
newest-has row P None k was here = here
newest-has row P (Some best) k was here = cond_both (ltb (row best) (row k)) k best P (λ passes. here) (λ fails. was)

pub nearest-has : {K : Type 0} (row : K → ℕ) (P : K → Type 0) (best : Option K) (k : K) → IfSome best P → P k → P (nearest row best k)
nearest-has row P None k was here = here
nearest-has row P (Some best) k was here = cond_both (ltb (row k) (row best)) k best P (λ passes. here) (λ fails. was)

-- the best of the keys gone through that pass a test, beside what is known of it, where one more key is met
module _ (choice : List PegKeyRecord → Option PegKeyRecord) (next : Option PegKeyRecord → PegKeyRecord → PegKeyRecord)
    (push : (xs : List PegKeyRecord) (k : PegKeyRecord) → choice (xs ++ k ∷ []) ≡ Some (next (choice xs) k))
    (p : PegKeyRecord → Bool) (P : PegKeyRecord → Type 0) (keys : List PegKeyRecord) (i : ℕ) (item key : PegKeyRecord)
    (within : i < length keys) (at : item ≡ get_or keys i item) (same : key ≡ item) where
  abbrev IsBest : List PegKeyRecord → Option PegKeyRecord → Type 0
  IsBest met best = (best ≡ choice (filter p met)) × IfSome best P

  more : choice (filter p (take (i + 1) keys)) ≡ cond (p key) (Some (next (choice (filter p (take i keys))) key)) (choice (filter p (take i keys)))
  more = choice-more choice next push p keys i key within (same ∙ at ∙ get_or_default keys i item key within)

  pub taken : (best new : Option PegKeyRecord) → IsBest (take i keys) best → p key ≡ true → P (next best key) → new ≡ Some (next best key)
      → IsBest (take (i + 1) keys) new
  taken best new was passes here is = (
    is ∙ ap (λ o. Some (next o key)) was.0 ∙ ap (λ b. cond b (Some (next (choice (filter p (take i keys))) key)) (choice (filter p (take i keys))))
        (sym passes) ∙ sym more,
    subst (λ o. IfSome o P) (sym is) here,
  )

  pub passed : (best new : Option PegKeyRecord) → IsBest (take i keys) best → p key ≡ false → new ≡ best → IsBest (take (i + 1) keys) new
  passed best new was fails is = (
    is ∙ was.0 ∙ ap (λ b. cond b (Some (next (choice (filter p (take i keys))) key)) (choice (filter p (take i keys)))) (sym fails) ∙ sym more,
    subst (λ o. IfSome o P) (sym is) was.1,
  )
