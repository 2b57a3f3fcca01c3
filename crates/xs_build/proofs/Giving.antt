-- What a build gives, from one function to the next
use Rattle.std.proofs.Common.{◌≡◌, ◌<◌, ℕ, zero, suc, Bool, Result, Ok, Err, IfOk, OnOk, IsErrOf, IsErrAnd, Some, List, [], ◌∷◌, All, Contains, length, slice_get, refl, sym, ap, ◌∙◌, subst, arith}
use Rattle.std.proofs.lemmas.List.Elements.{All-nil, All-cons, All-head, All-tail}
use Rattle.xs_scene.specs.Records.{SceneRecord}
use Rattle.xs_meaning.specs.Expressions.{Expr}
use Rattle.xs_demand.specs.Blocks.{Spread, spread, enter, put, Enters}
use Rattle.xs_demand.proofs.ClosedLists.{enter_old}
use Rattle.xs_tint.specs.Filters.{dropped_by}
use Rattle.xs_build.specs.declared.build.Build.{Build}
use Rattle.xs_build.specs.declared.scope.Scope.{Scope}
use Rattle.xs_build.specs.declared.state.State.{State}
use Rattle.xs_build.specs.declared.stop.Stop.{Stop}
use Rattle.xs_build.specs.declared.stop.Stop.TheVariants.{Full, Memory}
use Rattle.xs_build.specs.States.{spot_expr, state_expr, dropped_in, offset_of, StandsFor, IsSound, Grows, Gives, GivesPut, StandsIn}
use Rattle.xs_stays.specs.Found.{KeepsSets}
use Rattle.xs_build.proofs.Failing.{failed-as}
use Rattle.xs_build.proofs.Growing.{Extends, extends-put, longer, put-longer, get-extends}

-- ---- builds that grow

pub keeps-same : (sets : List (List Bool)) → KeepsSets sets sets
keeps-same sets = record { more = omega arith; same = λ k less. refl }

pub keeps-then : (a b c : List (List Bool)) → KeepsSets a b → KeepsSets b c → KeepsSets a c
keeps-then a b c first second =
    record {
      more = omega (arith, first.more, second.more);
      same = λ k less. second.same k (omega (arith, first.more)) ∙ first.same k less;
    }

all_stand :
    (s : SceneRecord) (names : List ℕ) (sets : List (List Bool)) (l m : List Spread) (es : List (State × ℕ)) → Extends l m
    → All (λ e. StandsFor s names sets l e.0 e.1) es → All (λ e. StandsFor s names sets m e.0 e.1) es
all_stand s names sets l m [] more all = All-nil (λ e. StandsFor s names sets m e.0 e.1)
all_stand s names sets l m (e ∷ es) more all =
    let here = All-head (λ e. StandsFor s names sets l e.0 e.1) e es all in
    All-cons (λ e. StandsFor s names sets m e.0 e.1) e es
    (record { set = here.set; at = get-extends l m e.1 _ more here.at })
    (all_stand s names sets l m es more (All-tail (λ e. StandsFor s names sets l e.0 e.1) e es all))

pub sound-more :
    (s : SceneRecord) (names : List ℕ) (b : Build) (l : List Spread) → Extends b.entered l → IsSound s names b
    → IsSound s names (record b { entered = l })
sound-more s names b l more sound =
    record {
      extents = sound.extents;
      stays = sound.stays;
      states = all_stand s names b.sets.keys b.entered l b.states.entries more sound.states;
    }

pub grows-same : (s : SceneRecord) (names : List ℕ) (most : ℕ) (b : Build) → IsSound s names b → Grows s names most b b
grows-same s names most b sound = record { sound = sound; sets = keeps-same b.sets.keys; few = omega arith }

pub grows-then :
    (s : SceneRecord) (names : List ℕ) (most : ℕ) (a b c : Build) → Grows s names most a b → Grows s names most b c
    → Grows s names most a c
grows-then s names most a b c first second =
    record {
      sound = second.sound;
      sets = keeps-then a.sets.keys b.sets.keys c.sets.keys first.sets second.sets;
      few = omega (arith, first.few, second.few);
    }

pub same_dropped : (old new : List (List Bool)) (k : ℕ) → KeepsSets old new → k < length old → dropped_in new k ≡ dropped_in old k
same_dropped old new k keeps less = ap dropped_by (keeps.same k less)

pub same_expr :
    (s : SceneRecord) (names : List ℕ) (old new : List (List Bool)) (t : State) → KeepsSets old new → t.dropped < length old
    → state_expr s names new t ≡ state_expr s names old t
same_expr s names old new t keeps less =
    ap (λ (f : ℕ → Bool). spot_expr s names t.spot f (offset_of t)) (same_dropped old new t.dropped keeps less)

-- ---- errors

pub gives-err :
    (at : Scope) (old new : Build) (e : Expr) (g : ℕ) (r : Result ℕ Stop) (x : Stop) → IsErrAnd r (λ y. y ≡ x)
    → (x ≡ Full → at.most < length (enter e g old.entered)) → Gives at old new e g r
gives-err at old new e g r x failed full =
    subst (Gives at old new e g) (sym (failed-as r x failed))
    (record { entered = tt; grows = tt; full = λ is. full (let same : x ≡ Full = cc in same) })

pub gives-memory :
    (at : Scope) (old new : Build) (e : Expr) (g : ℕ) (r : Result ℕ Stop) → IsErrAnd r (λ y. y ≡ Memory)
    → Gives at old new e g r
gives-memory at old new e g r failed =
    gives-err at old new e g r Memory failed (λ is. let none : ⊥ = cc in absurd none)

-- ---- answers

ok-map : (r : Result ℕ Stop) (P Q : Type 0) → (P → Q) → OnOk r P → OnOk r Q
ok-map (Ok n) P Q f p = f p
ok-map (Err x) P Q f p = tt

pub gives-along :
    (at : Scope) (old new : Build) (d e : Expr) (g : ℕ) (r : Result ℕ Stop) → d ≡ e → Gives at old new d g r → Gives at old new e g r
gives-along at old new d e g r same = subst (λ (x : Expr). Gives at old new x g r) same

-- what is given for a state that stands for an expression
pub gives-in_place :
    (at : Scope) (left : ℕ) (old mid new : Build) (e : Expr) (g : ℕ) (u : State) (r : Result ℕ Stop) → mid.entered ≡ old.entered
    → KeepsSets old.sets.keys mid.sets.keys → StandsIn at left mid e g u
    → Gives at mid new (state_expr at.scene.now at.names.now mid.sets.keys u) u.growth r → Gives at old new e g r
gives-in_place at left old mid new e g u r entered sets stands given =
    let s = at.scene.now in
    let names = at.names.now in
    let given : Gives at mid new e g r =
    subst (λ (g : ℕ). Gives at mid new e g r) stands.growth
    (gives-along at mid new (state_expr s names mid.sets.keys u) e u.growth r stands.expr given) in
    record {
      entered = subst (λ (l : List Spread). IfOk r (λ n. Enters l new.entered e g n)) entered given.entered;
      grows =
          ok-map r (Grows s names at.most mid new) (Grows s names at.most old new)
          (grows-then s names at.most old mid new
          (record { sound = stands.may.ask.sound; sets = sets; few = omega (arith, ap length entered) }))
          given.grows;
      full = subst (λ (l : List Spread). IsErrOf r Full → at.most < length (enter e g l)) entered given.full;
    }

contains-get : (l : List Spread) (n : ℕ) (x : Spread) → slice_get l n ≡ Some x → Contains l x
contains-get [] n x is = cc
contains-get (y ∷ l) zero x is = (0, omega arith, let same : y ≡ x = cc in same)
contains-get (y ∷ l) (suc n) x is =
    let there = contains-get l n x is in
    (suc there.0, omega (arith, there.1), there.2)

pub gives-recalled :
    (at : Scope) (b : Build) (t : State) (n : ℕ) → IsSound at.scene.now at.names.now b
    → StandsFor at.scene.now at.names.now b.sets.keys b.entered t n
    → Gives at b b (state_expr at.scene.now at.names.now b.sets.keys t) t.growth (Ok n)
gives-recalled at b t n sound stands =
    let e = state_expr at.scene.now at.names.now b.sets.keys t in
    record {
      entered =
          record { now = sym (enter_old e t.growth b.entered (contains-get b.entered n (spread e t.growth) stands.at)); at = stands.at };
      grows = grows-same at.scene.now at.names.now at.most b sound;
      full = λ is. let none : ⊥ = cc in absurd none;
    }

pub gives-remembered :
    (at : Scope) (old mid new : Build) (e : Expr) (g n : ℕ) → Gives at old mid e g (Ok n) → new.entered ≡ mid.entered
    → new.sets ≡ mid.sets → IsSound at.scene.now at.names.now new → Gives at old new e g (Ok n)
gives-remembered at old mid new e g n given entered sets sound =
    record {
      entered =
          record { now = entered ∙ given.entered.now; at = ap (λ (l : List Spread). slice_get l n) entered ∙ given.entered.at };
      grows =
          record {
            sound = sound;
            sets = subst (KeepsSets old.sets.keys) (sym (ap (λ s. s.keys) sets)) given.grows.sets;
            few = omega (arith, given.grows.few, ap length entered);
          };
      full = λ is. let none : ⊥ = cc in absurd none;
    }

-- one more is put last of all
pub gives-final :
    (at : Scope) (old mid : Build) (l : List Spread) (x : Spread) (e : Expr) (g : ℕ) (r : Result ℕ Stop)
    → Grows at.scene.now at.names.now at.most old mid → x ≡ spread e g → put x mid.entered ≡ enter e g old.entered
    → GivesPut at.most mid.entered l x r → Gives at old (record mid { entered = l }) e g r
gives-final at old mid l x e g (Ok n) grows is same given =
    record {
      entered = record { now = given.put.0 ∙ same; at = given.put.1 ∙ ap (λ (x : Spread). Some x) is };
      grows =
          record {
            sound =
                sound-more at.scene.now at.names.now mid l
                (subst (Extends mid.entered) (sym given.put.0) (extends-put x mid.entered)) grows.sound;
            sets = grows.sets;
            few = omega (arith, given.few, put-longer x mid.entered, ap length given.put.0);
          };
      full = λ is. let none : ⊥ = cc in absurd none;
    }
gives-final at old mid l x e g (Err y) grows is same given =
    record {
      entered = tt;
      grows = tt;
      full = λ is.
          omega (arith, given.full is, longer mid.entered (put x mid.entered) (extends-put x mid.entered), ap length same);
    }

pub gives-put :
    (at : Scope) (b : Build) (l : List Spread) (e : Expr) (g : ℕ) (r : Result ℕ Stop) → IsSound at.scene.now at.names.now b
    → put (spread e g) b.entered ≡ enter e g b.entered → GivesPut at.most b.entered l (spread e g) r
    → Gives at b (record b { entered = l }) e g r
gives-put at b l e g r sound same given =
    gives-final at b b l (spread e g) e g r (grows-same at.scene.now at.names.now at.most b sound) refl same given
