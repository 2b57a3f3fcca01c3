-- States that compare as equal are the same, and so are sets of dropped styles; what is remembered stays right
use Rattle.std.proofs.Common.{rules, zero, ◌≡◌, ℕ, suc, true, Bool, ◌&&◌, eqb, Option, Some, None, IfSome, List, [], ◌∷◌, All, Contains, slice_get, slice_index_or, refl, sym, ap₂, ◌∙◌, subst}
use Rattle.std.specs.Map.{lookup}
use Rattle.std.specs.Bool.{beq}
use Rattle.std.specs.Cmp.{booleans_Decides}
use Rattle.std.specs.Cmp.Lexicographic.{pointwise}
use Rattle.std.specs.Ordering.{int_eq}
use Rattle.std.proofs.lemmas.Bool.Decides.{Decides-int_eq}
use Rattle.std.proofs.lemmas.Bool.{eqb-true, and_parts, cond_both}
use Rattle.std.proofs.lemmas.List.Elements.{All-head, All-tail, All-cons, All-contains}
use Rattle.std.proofs.lemmas.Map.Views.{IfSome-lookup}
use Rattle.indexmap.specs.IndexMap.{insert_entry}
use Rattle.xs_scene.specs.Records.{SceneRecord}
use Rattle.xs_step.specs.declared.spot.Spot.{Spot}
use Rattle.xs_step.specs.contracts.spot.SpotPartialEq.TheImpl as spot_equality
use Rattle.xs_demand.specs.Blocks.{Spread}
use Rattle.xs_build.specs.contracts.state.StatePartialEq.TheImpl as state_equality
use Rattle.xs_build.specs.declared.state.State.{State}
use Rattle.xs_build.specs.States.{StandsFor}

spot_exact : (x y : Spot) → (spot_equality.eq-value).it x y ≡ true → x ≡ y
spot_exact x y same = search rules

abbrev pub same_state : State → State → Bool
same_state = (state_equality.eq-value).it

pub state_exact : (x y : State) → same_state x y ≡ true → x ≡ y
state_exact x y same =
    let same_spot = (spot_equality.eq-value).it in
    let a = and_parts (same_spot x.spot y.spot)
    (int_eq x.x y.x && (int_eq x.y y.y && (eqb x.dropped y.dropped && eqb x.growth y.growth))) same in
    let b = and_parts (int_eq x.x y.x) (int_eq x.y y.y && (eqb x.dropped y.dropped && eqb x.growth y.growth)) a.1 in
    let c = and_parts (int_eq x.y y.y) (eqb x.dropped y.dropped && eqb x.growth y.growth) b.1 in
    let d = and_parts (eqb x.dropped y.dropped) (eqb x.growth y.growth) c.1 in
    let spot : x.spot ≡ y.spot = spot_exact x.spot y.spot a.0 in
    let across : x.x ≡ y.x = (Decides-int_eq x.x y.x).0 b.0 in
    let up : x.y ≡ y.y = (Decides-int_eq x.y y.y).0 c.0 in
    let dropped : x.dropped ≡ y.dropped = eqb-true x.dropped y.dropped d.0 in
    let growth : x.growth ≡ y.growth = eqb-true x.growth y.growth d.1 in
    λ i. record { spot = spot i; x = across i; y = up i; dropped = dropped i; growth = growth i }

-- what is remembered of a state is right
pub recalled :
    (s : SceneRecord) (names : List ℕ) (sets : List (List Bool)) (l : List Spread) (es : List (State × ℕ)) (t : State)
    → All (λ e. StandsFor s names sets l e.0 e.1) es → IfSome (lookup (same_state t) es) (StandsFor s names sets l t)
recalled s names sets l es t all = each (lookup (same_state t) es) (IfSome-lookup state_exact t es)
  where
    each : (o : Option ℕ) → IfSome o (λ n. Contains es (t, n)) → IfSome o (StandsFor s names sets l t)
    each None there = tt
    each (Some n) there = All-contains (λ e. StandsFor s names sets l e.0 e.1) es (t, n) all there

pub remembered :
    (s : SceneRecord) (names : List ℕ) (sets : List (List Bool)) (l : List Spread) (es : List (State × ℕ)) (t : State) (n : ℕ)
    → All (λ e. StandsFor s names sets l e.0 e.1) es → StandsFor s names sets l t n
    → All (λ e. StandsFor s names sets l e.0 e.1) (insert_entry same_state es t n)
remembered s names sets l [] t n all here = All-cons (λ e. StandsFor s names sets l e.0 e.1) (t, n) [] here all
remembered s names sets l (e ∷ es) t n all here =
    let P : State × ℕ → Type 0 = λ e. StandsFor s names sets l e.0 e.1 in
    cond_both (same_state t e.0) ((e.0, n) ∷ es) (e ∷ insert_entry same_state es t n) (All P)
    (λ passes.
    All-cons P (e.0, n) es (subst (λ (q : State). StandsFor s names sets l q n) (state_exact t e.0 passes) here)
    (All-tail P e es all))
    (λ fails. All-cons P e (insert_entry same_state es t n) (All-head P e es all)
    (remembered s names sets l es t n (All-tail P e es all) here))

-- ---- sets of dropped styles

pub same_flags : (f g : List Bool) → pointwise beq f g ≡ true → f ≡ g
same_flags [] [] same = refl
same_flags [] (b ∷ g) same = cc
same_flags (a ∷ f) [] same = cc
same_flags (a ∷ f) (b ∷ g) same =
    let both = and_parts (beq a b) (pointwise beq f g) same in
    ap₂ (λ (x : Bool) (xs : List Bool). x ∷ xs) ((booleans_Decides a b).0 both.0) (same_flags f g both.1)

slice_get-index_or : {X : Type 0} (xs : List X) (k : ℕ) (x d : X) → slice_get xs k ≡ Some x → slice_index_or xs k d ≡ x
slice_get-index_or [] k x d is = cc
slice_get-index_or (y ∷ ys) zero x d is = cc
slice_get-index_or (y ∷ ys) (suc k) x d is = slice_get-index_or ys k x d is

-- the set that was put has its number
pub set_put :
    (sets : List (List Bool)) (k : ℕ) (f : List Bool)
    → (g : List Bool) × (slice_get sets k ≡ Some g) × (pointwise beq f g ≡ true) → slice_index_or sets k [] ≡ f
set_put sets k f stored =
    slice_get-index_or sets k stored.0 [] stored.1 ∙ sym (same_flags f stored.0 stored.2)
