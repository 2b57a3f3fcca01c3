-- Places that compare as equal
use Rattle.std.proofs.Common.{◌≡◌, ℕ, Bool, true, false, if◌then◌else◌, List, [], ◌∷◌, ◌++◌, Some, Contains, Decides, slice_get, refl, sym, ap, ◌∙◌, subst, inl, inr, rules}
use Rattle.std.specs.List.{list_any}
use Rattle.std.proofs.lemmas.Bool.{false≢true}
use Rattle.std.proofs.lemmas.Map.Views.{Contains-from_any}
use Rattle.std.proofs.lemmas.List.Folds.{list_any_at}
use Rattle.indexmap.specs.IndexSet.{insert_key}
use Rattle.xs_entered.specs.declared.place.Place.{Place}
use Rattle.xs_entered.specs.contracts.place.PlacePartialEq.TheImpl as equality
use Rattle.xs_entered.specs.Places.{IsPut}

abbrev pub same_place : Place → Place → Bool
same_place = (equality.eq-value).it

exact : (x y : Place) → same_place x y ≡ true → x ≡ y
exact x y same = search rules

same : (p : Place) → same_place p p ≡ true
same p = search rules

stands : (places : List Place) (p : Place) → Decides (list_any (same_place p) places) (Contains places p)
stands places p = (
  Contains-from_any exact p places,
  λ (there : Contains places p).
      list_any_at (same_place p) places there.0 p there.1
      (subst (λ q. same_place p q ≡ true) (sym there.2) (same p)),
)

put_by :
    (old new : List Place) (p : Place) (n : ℕ) (b : Bool) → list_any (same_place p) old ≡ b
    → new ≡ (if b then old else (old ++ p ∷ [])) → slice_get new n ≡ Some p → IsPut old new p n
put_by old new p n true found is at = record { at = at; grown = inl (is, (stands old p).0 found) }
put_by old new p n false none is at =
    record { at = at; grown = inr (is, λ there. false≢true (sym none ∙ (stands old p).1 there)) }

pub is_put :
    (old new : List Place) (p : Place) (n : ℕ) → new ≡ insert_key same_place old p
    → (q : Place) × (slice_get new n ≡ Some q) × (same_place p q ≡ true) → IsPut old new p n
is_put old new p n is stored =
    put_by old new p n (list_any (same_place p) old) refl is (stored.1 ∙ ap (λ q. Some q) (sym (exact p stored.0 stored.2)))
