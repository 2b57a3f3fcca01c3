-- What is remembered of spots stays right
use Rattle.std.proofs.Common.{◌≡◌, Bool, Option, Some, IfSome, List, [], ◌∷◌, All, Contains, sym, subst}
use Rattle.std.proofs.lemmas.Bool.{cond_both}
use Rattle.std.proofs.lemmas.List.Elements.{All-head, All-tail, All-cons, All-contains}
use Rattle.std.proofs.lemmas.Map.Views.{IfSome-lookup}
use Rattle.indexmap.specs.IndexMap.{insert_entry}
use Rattle.xs_scene.specs.Records.{SceneRecord}
use Rattle.xs_step.specs.declared.spot.Spot.{Spot}
use Rattle.xs_step.specs.Spots.{same_spot}
use Rattle.xs_step.proofs.SameSpots.{exact}
use Rattle.xs_stays.specs.declared.found.Found.{Found}
use Rattle.xs_stays.specs.declared.found.Remembered.{Remembered}
use Rattle.xs_stays.specs.Found.{found_at, IsFound, AreRight}
use Rattle.xs_stays.specs.Stays.{stay_at}

abbrev AllRight : SceneRecord → List (List Bool) → List (Spot × Option Found) → Type 0
AllRight s sets es = All (λ e. IsFound sets e.1 (stay_at s e.0)) es

-- one more spot
right-insert :
    (s : SceneRecord) (sets : List (List Bool)) (es : List (Spot × Option Found)) (p : Spot) (v : Option Found)
    → AllRight s sets es → IsFound sets v (stay_at s p) → AllRight s sets (insert_entry same_spot es p v)
right-insert s sets [] p v all here = All-cons (λ e. IsFound sets e.1 (stay_at s e.0)) (p, v) [] here all
right-insert s sets (e ∷ es) p v all here =
    let P : Spot × Option Found → Type 0 = λ e. IsFound sets e.1 (stay_at s e.0) in
    cond_both (same_spot p e.0) ((e.0, v) ∷ es) (e ∷ insert_entry same_spot es p v) (All P)
    (λ passes.
    All-cons P (e.0, v) es (subst (λ (q : Spot). IsFound sets v (stay_at s q)) (exact p e.0 passes) here) (All-tail P e es all))
    (λ fails. All-cons P e (insert_entry same_spot es p v) (All-head P e es all) (right-insert s sets es p v (All-tail P e es all) here))

-- what is remembered, after one more spot was noted
pub right-noted :
    (s : SceneRecord) (old new : Remembered) (p : Spot) (v : Option Found)
    → new.known.entries ≡ insert_entry same_spot old.known.entries p v → new.sets ≡ old.sets
    → AreRight s old → IsFound old.sets.keys v (stay_at s p) → AreRight s new
right-noted s old new p v entries sets right is =
    subst (λ sets. AllRight s sets.keys new.known.entries) (sym sets)
    (subst (AllRight s old.sets.keys) (sym entries) (right-insert s old.sets.keys old.known.entries p v right is))

-- what is found is right
pub right-found :
    (s : SceneRecord) (sets : List (List Bool)) (es : List (Spot × Option Found)) (p : Spot) (v : Option Found)
    → AllRight s sets es → found_at p es ≡ Some v → IsFound sets v (stay_at s p)
right-found s sets es p v all is =
    All-contains (λ e. IsFound sets e.1 (stay_at s e.0)) es (p, v) all
    (subst (λ (o : Option (Option Found)). IfSome o (λ v. Contains es (p, v))) is (IfSome-lookup exact p es))
