-- Spots that compare as equal are the same, and what is remembered stays right
use Rattle.std.proofs.Common.{◌≡◌, ℕ, true, false, Bool, cond, ◌&&◌, ◌||◌, eqb, Option, Some, None, IfSome, IsSome, is_some, List, [], ◌∷◌, ◌++◌, All, Contains, refl, sym, ap, ◌∙◌, subst}
use Rattle.std.specs.List.{list_any}
use Rattle.std.specs.Map.{lookup}
use Rattle.std.proofs.Math.Bool.{or-true}
use Rattle.std.proofs.lemmas.Bool.{eqb-true, eq-eqb, and_from, and_parts, cond_both}
use Rattle.std.proofs.lemmas.List.Elements.{All-head, All-tail, All-cons, All-push, All-contains}
use Rattle.std.proofs.lemmas.List.Folds.{list_any-append}
use Rattle.std.proofs.lemmas.Map.Views.{Contains-from_any, IfSome-lookup}
use Rattle.indexmap.specs.IndexMap.{insert_entry}
use Rattle.indexmap.specs.IndexSet.{insert_key}
use Rattle.xs_scene.specs.Records.{SceneRecord}
use Rattle.xs_scene.specs.declared.node.Ref.{Ref}
use Rattle.xs_scene.specs.declared.node.Ref.TheVariants.{Column, Node}
use Rattle.xs_scene.specs.contracts.node.RefPartialEq.TheImpl as ref_equality
use Rattle.xs_step.specs.declared.spot.At.{At}
use Rattle.xs_step.specs.declared.spot.At.TheVariants.{Row, Input}
use Rattle.xs_step.specs.declared.spot.Spot.{Spot}
use Rattle.xs_step.specs.contracts.spot.AtPartialEq.TheImpl as at_equality
use Rattle.xs_step.specs.Spots.{same_spot}
use Rattle.xs_step.proofs.SameSpots.{exact, same}
use Rattle.xs_needs.specs.Shown.{drawings_at, is_clear_at}
use Rattle.xs_needs.specs.Found.{AreRight, AreWhole}

-- ---- flags

right-insert :
    (s : SceneRecord) (es : List (Spot × Bool)) (p : Spot) (v : Bool)
    → AreRight s es → v ≡ is_clear_at s p → AreRight s (insert_entry same_spot es p v)
right-insert s [] p v all here = All-cons (λ e. e.1 ≡ is_clear_at s e.0) (p, v) [] here all
right-insert s (e ∷ es) p v all here =
    let P : Spot × Bool → Type 0 = λ e. e.1 ≡ is_clear_at s e.0 in
    cond_both (same_spot p e.0) ((e.0, v) ∷ es) (e ∷ insert_entry same_spot es p v) (All P)
    (λ passes. All-cons P (e.0, v) es (subst (λ (q : Spot). v ≡ is_clear_at s q) (exact p e.0 passes) here) (All-tail P e es all))
    (λ fails. All-cons P e (insert_entry same_spot es p v) (All-head P e es all) (right-insert s es p v (All-tail P e es all) here))

-- one more right flag
pub right-noted :
    (s : SceneRecord) (es new : List (Spot × Bool)) (p : Spot) (v : Bool) → new ≡ insert_entry same_spot es p v
    → AreRight s es → v ≡ is_clear_at s p → AreRight s new
right-noted s es new p v is all here = subst (AreRight s) (sym is) (right-insert s es p v all here)

-- a flag that is found is right
pub right-found :
    (s : SceneRecord) (es : List (Spot × Bool)) (p : Spot) (v : Bool) → AreRight s es → lookup (same_spot p) es ≡ Some v
    → v ≡ is_clear_at s p
right-found s es p v all is =
    All-contains (λ e. e.1 ≡ is_clear_at s e.0) es (p, v) all
    (subst (λ (o : Option Bool). IfSome o (λ v. Contains es (p, v))) is (IfSome-lookup exact p es))

-- a flag that was noted is found
lookup-insert : (es : List (Spot × Bool)) (p : Spot) (v : Bool) → IsSome (lookup (same_spot p) (insert_entry same_spot es p v))
lookup-insert [] p v = ap (λ b. is_some (cond b (Some v) None)) (same p)
lookup-insert (e ∷ es) p v =
    cond_both (same_spot p e.0) ((e.0, v) ∷ es) (e ∷ insert_entry same_spot es p v) (λ (new : List (Spot × Bool)). IsSome (lookup (same_spot p) new))
    (λ passes. ap (λ b. is_some (cond b (Some v) (lookup (same_spot p) es))) passes)
    (λ fails. ap (λ b. is_some (cond b (Some e.1) (lookup (same_spot p) (insert_entry same_spot es p v)))) fails ∙ lookup-insert es p v)

pub found-noted :
    (es new : List (Spot × Bool)) (p : Spot) (v : Bool) → new ≡ insert_entry same_spot es p v → IsSome (lookup (same_spot p) new)
found-noted es new p v is = subst (λ (es : List (Spot × Bool)). IsSome (lookup (same_spot p) es)) (sym is) (lookup-insert es p v)

-- one that was found is found after one more
found_either :
    (b v w : Bool) (o r : Option Bool) → (IsSome o → IsSome r) → IsSome (cond b (Some v) o) → IsSome (cond b (Some w) r)
found_either true v w o r stays found = refl
found_either false v w o r stays found = stays found

lookup-kept :
    (es : List (Spot × Bool)) (p q : Spot) (v : Bool) → IsSome (lookup (same_spot q) es)
    → IsSome (lookup (same_spot q) (insert_entry same_spot es p v))
lookup-kept [] p q v found = cc
lookup-kept (e ∷ es) p q v found =
    cond_both (same_spot p e.0) ((e.0, v) ∷ es) (e ∷ insert_entry same_spot es p v) (λ (new : List (Spot × Bool)). IsSome (lookup (same_spot q) new))
    (λ passes. found_either (same_spot q e.0) e.1 v (lookup (same_spot q) es) (lookup (same_spot q) es) (λ stays. stays) found)
    (λ fails.
    found_either (same_spot q e.0) e.1 e.1 (lookup (same_spot q) es) (lookup (same_spot q) (insert_entry same_spot es p v))
    (lookup-kept es p q v) found)

pub found-kept :
    (es new : List (Spot × Bool)) (p q : Spot) (v : Bool) → new ≡ insert_entry same_spot es p v
    → IsSome (lookup (same_spot q) es) → IsSome (lookup (same_spot q) new)
found-kept es new p q v is found =
    subst (λ (es : List (Spot × Bool)). IsSome (lookup (same_spot q) es)) (sym is) (lookup-kept es p q v found)

-- ---- spots whose drawings are all there

-- one more
pub whole-noted :
    (s : SceneRecord) (drawings : List ℕ) (ps new : List Spot) (p : Spot) → new ≡ insert_key same_spot ps p
    → AreWhole s drawings ps → All (Contains drawings) (drawings_at s p) → AreWhole s drawings new
whole-noted s drawings ps new p is all here =
    let P : Spot → Type 0 = λ p. All (Contains drawings) (drawings_at s p) in
    subst (All P) (sym is)
    (cond_both (list_any (same_spot p) ps) ps (ps ++ p ∷ []) (All P) (λ passes. all) (λ fails. All-push P ps p all here))

pub whole-found :
    (s : SceneRecord) (drawings : List ℕ) (ps : List Spot) (p : Spot) → AreWhole s drawings ps
    → list_any (same_spot p) ps ≡ true → All (Contains drawings) (drawings_at s p)
whole-found s drawings ps p all passes =
    All-contains (λ p. All (Contains drawings) (drawings_at s p)) ps p all (Contains-from_any exact p ps passes)

-- a spot that was noted is found
pub listed-noted : (ps new : List Spot) (p : Spot) → new ≡ insert_key same_spot ps p → list_any (same_spot p) new ≡ true
listed-noted ps new p is =
    subst (λ (ps : List Spot). list_any (same_spot p) ps ≡ true) (sym is)
    (cond_both (list_any (same_spot p) ps) ps (ps ++ p ∷ []) (λ (ps : List Spot). list_any (same_spot p) ps ≡ true) (λ passes. passes)
    (λ fails. list_any-last ps))
  where
    list_any-last : (ps : List Spot) → list_any (same_spot p) (ps ++ p ∷ []) ≡ true
    list_any-last ps =
        list_any-append (same_spot p) ps (p ∷ [])
        ∙ ap (λ b. list_any (same_spot p) ps || (b || false)) (same p) ∙ or-true (list_any (same_spot p) ps)

-- one that was noted before is found
pub listed-kept :
    (ps new : List Spot) (p q : Spot) → new ≡ insert_key same_spot ps p → list_any (same_spot q) ps ≡ true
    → list_any (same_spot q) new ≡ true
listed-kept ps new p q is listed =
    subst (λ (ps : List Spot). list_any (same_spot q) ps ≡ true) (sym is)
    (cond_both (list_any (same_spot p) ps) ps (ps ++ p ∷ []) (λ (ps : List Spot). list_any (same_spot q) ps ≡ true) (λ passes. listed)
    (λ fails. list_any-append (same_spot q) ps (p ∷ []) ∙ ap (λ b. b || list_any (same_spot q) (p ∷ [])) listed))
