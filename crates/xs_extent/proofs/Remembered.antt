-- What is remembered of spots stays right
use Rattle.std.proofs.Common.{◌≡◌, ℕ, Option, Some, IfSome, List, [], ◌∷◌, All, Contains, sym, subst}
use Rattle.std.proofs.lemmas.Bool.{cond_both}
use Rattle.std.proofs.lemmas.List.Elements.{All-head, All-tail, All-cons, All-contains}
use Rattle.std.proofs.lemmas.Map.Views.{IfSome-lookup}
use Rattle.indexmap.specs.IndexMap.{insert_entry}
use Rattle.xs_scene.specs.Records.{SceneRecord}
use Rattle.xs_step.specs.declared.spot.Spot.{Spot}
use Rattle.xs_step.specs.Spots.{same_spot}
use Rattle.xs_step.proofs.SameSpots.{exact}
use Rattle.xs_extent.specs.Extent.{extent_at, found, AreRight}

right-insert :
    (s : SceneRecord) (es : List (Spot × Option ℕ)) (p : Spot) (v : Option ℕ)
    → AreRight s es → v ≡ extent_at s p → AreRight s (insert_entry same_spot es p v)
right-insert s [] p v all here = All-cons (λ e. e.1 ≡ extent_at s e.0) (p, v) [] here all
right-insert s (e ∷ es) p v all here =
    let P : Spot × Option ℕ → Type 0 = λ e. e.1 ≡ extent_at s e.0 in
    cond_both (same_spot p e.0) ((e.0, v) ∷ es) (e ∷ insert_entry same_spot es p v) (All P)
    (λ passes. All-cons P (e.0, v) es (subst (λ (q : Spot). v ≡ extent_at s q) (exact p e.0 passes) here) (All-tail P e es all))
    (λ fails. All-cons P e (insert_entry same_spot es p v) (All-head P e es all) (right-insert s es p v (All-tail P e es all) here))

-- one more spot
pub right-noted :
    (s : SceneRecord) (es new : List (Spot × Option ℕ)) (p : Spot) (v : Option ℕ) → new ≡ insert_entry same_spot es p v
    → AreRight s es → v ≡ extent_at s p → AreRight s new
right-noted s es new p v is all here = subst (AreRight s) (sym is) (right-insert s es p v all here)

-- what is found is right
pub right-found :
    (s : SceneRecord) (es : List (Spot × Option ℕ)) (p : Spot) (v : Option ℕ) → AreRight s es → found p es ≡ Some v
    → v ≡ extent_at s p
right-found s es p v all is =
    All-contains (λ e. e.1 ≡ extent_at s e.0) es (p, v) all
    (subst (λ (o : Option (Option ℕ)). IfSome o (λ v. Contains es (p, v))) is (IfSome-lookup exact p es))
