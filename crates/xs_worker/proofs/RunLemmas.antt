-- Lemmas on what a worker does over its targets, and on giving up
use Rattle.std.proofs.Common.{◌≡◌, ◌<◌, ◌≤◌, ◌+◌, ℕ, Option, Some, None, List, [], ◌∷◌, ◌++◌, length, slice_index, refl, sym, ap, subst, ◌∙◌, inl, inr, arith, append_assoc}
use Rattle.std.proofs.lemmas.Bool.{cases_eq}
use Rattle.std.proofs.lemmas.List.{append-nil}
use Rattle.xs_plan.specs.Record.{PlanRecord}
use Rattle.xs_core.specs.Views.{signed, DeskView, times, Knows}
use Rattle.xs_core.specs.Calls.{Adds}
use Rattle.xs_worker.specs.declared.step.Step.{Step}
use Rattle.xs_worker.specs.declared.step.Step.TheVariants as step
use Rattle.xs_worker.specs.Piles.{top_of, below_top, last_or}
use Rattle.xs_rawfile.specs.Held.{Held}
use Rattle.xs_worker.specs.Reading.{IsReached}
use Rattle.xs_worker.specs.Claims.{tagged, Fits, Grew, AreDrawn, IsAble, is_lost, WasLost, work_left}
use Rattle.xs_worker.specs.Steps.{Went, StepTells}
use Rattle.xs_worker.proofs.Lists.{times-same, times-other, times-more}
use Rattle.xs_worker.proofs.GrewLemmas.{adds_then, stays_same, none_of, fits_after, went_nowhere}
use Rattle.xs_worker.proofs.ReadLemmas.{reached_target}
use Rattle.xs_worker.proofs.StepLemmas.{step_then, went_then, meetings-grow}
use Rattle.xs_worker.proofs.WorkLemmas.{drawn_then}

-- ---- giving up

-- these were given up, and the rest is still claimed
pub record GaveUp (p : PlanRecord) (targets stack : List ℕ) (v : DeskView) (rest : List ℕ) (w : DeskView) : Type 0 where
  pub given : List ℕ
  pub all : given ++ rest ≡ stack
  pub adds : Adds v w [] [] (tagged v.number given) []
  pub fits : Fits p targets rest w

pub gave_none : (p : PlanRecord) (targets stack : List ℕ) (v : DeskView) → Fits p targets stack v → GaveUp p targets stack v stack v
gave_none p targets stack v fits = record { given = []; all = refl; adds = stays_same v; fits = fits }

top_given :
    (p : PlanRecord) (targets : List ℕ) (w x : DeskView) (k : ℕ) (rest : List ℕ) → Fits p targets (k ∷ rest) w
    → Adds w x [] [] (signed w.number k ∷ []) [] → Fits p targets rest x
top_given p targets w x k rest fits adds =
    fits_after p targets (k ∷ rest) rest w x [] [] (k ∷ []) [] fits adds fits.chain.3 balance
    (λ j port e some is. omega (arith, fits.unserved j port e (omega (arith, some, times-more j k rest)) is))
  where
    balance : (j : ℕ) → times j rest + 0 + times j (k ∷ []) ≡ times j (k ∷ rest) + 0
    balance j = elim (cases_eq k j) [
      | inl same ↦
          subst (λ i. times i rest + 0 + times i (k ∷ []) ≡ times i (k ∷ rest) + 0) same
          (omega (arith, times-same k rest, times-same k []))
      | inr differ ↦ omega (arith, times-other j k rest differ, times-other j k [] differ)
    ]

pub gave_more :
    (p : PlanRecord) (targets stack : List ℕ) (v : DeskView) (rest : List ℕ) (w : DeskView) (new : List ℕ) (x : DeskView) (k : ℕ)
    → GaveUp p targets stack v rest w → top_of rest ≡ Some k → Adds w x [] [] (signed w.number k ∷ []) [] → new ≡ below_top rest
    → GaveUp p targets stack v new x
gave_more p targets stack v [] w new x k gave top adds same = absurd (cc)
gave_more p targets stack v (y ∷ rest) w new x k gave top adds same =
    let is : k ≡ y = cc in
    let here = subst (λ i. Adds w x [] [] (signed w.number i ∷ []) []) is adds in
    subst (λ s. GaveUp p targets stack v s x) (sym same)
    (record {
      given = gave.given ++ y ∷ [];
      all = append_assoc gave.given (y ∷ []) rest ∙ gave.all;
      adds = adds_then v w x [] [] gave.given [] [] [] (y ∷ []) [] gave.adds here;
      fits = top_given p targets w x y rest gave.fits here;
    })

pub gave_all :
    (p : PlanRecord) (targets stack : List ℕ) (v : DeskView) (rest : List ℕ) (w : DeskView) → GaveUp p targets stack v rest w
    → top_of rest ≡ None → Adds v w [] [] (tagged v.number stack) []
gave_all p targets stack v [] w gave top =
    subst (λ l. Adds v w [] [] (tagged v.number l) []) (sym (append-nil gave.given) ∙ gave.all) gave.adds
gave_all p targets stack v (k ∷ rest) w gave top = absurd (cc)

pub top_none : (stack : List ℕ) → top_of stack ≡ None → stack ≡ []
top_none [] top = refl
top_none (k ∷ stack) top = absurd (cc)

pub last_next : (before : Option ℕ) (stack : List ℕ) (k : ℕ) → top_of stack ≡ Some k → last_or (Some k) (below_top stack) ≡ last_or before stack
last_next before [] k top = absurd (cc)
last_next before (x ∷ stack) k top = let same : k ≡ x = cc in ap (λ i. last_or (Some i) stack) same

pub last_done : (before : Option ℕ) (stack : List ℕ) → top_of stack ≡ None → last_or before stack ≡ before
last_done before [] top = refl
last_done before (k ∷ stack) top = absurd (cc)

pub below_less : (stack : List ℕ) (k : ℕ) → top_of stack ≡ Some k → length (below_top stack) < length stack
below_less [] k top = absurd (cc)
below_less (x ∷ stack) k top = omega arith

pub none_below : (stack : List ℕ) (target j : ℕ) → top_of stack ≡ None → 0 < times j stack → target < j
none_below stack target j top some =
    absurd (none_of j (subst (λ s. 0 < times j s) (top_none stack top) some))

-- ---- targets

pub able_moved :
    (p : PlanRecord) (targets stack : List ℕ) (next : ℕ) (v : DeskView) (b new : List ℕ) (w : DeskView) (c more : List ℕ)
    → IsAble p targets next stack v → next < length targets → Went p targets stack v b new w c more → IsAble p targets next new w
able_moved p targets stack next v b new w c more able less went = record {
  fits = went.fits;
  there = able.there;
  within = able.within;
  known = λ i lower. went.grew.adds.knows (slice_index targets i) (able.known i lower);
  last = λ is. absurd (omega (arith, is, less));
}

pub able_ready :
    (p : PlanRecord) (targets stack : List ℕ) (next : ℕ) (v : DeskView) (b new : List ℕ) (w : DeskView) (c more : List ℕ)
    → IsAble p targets next stack v → next < length targets → Went p targets stack v b new w c more
    → Knows w (slice_index targets next) → new ≡ [] → IsAble p targets (next + 1) new w
able_ready p targets stack next v b new w c more able less went knows none = record {
  fits = went.fits;
  there = able.there;
  within = omega (arith, less);
  known = known;
  last = λ is. none;
}
  where
    known : (i : ℕ) → i < next + 1 → Knows w (slice_index targets i)
    known i lower = elim (cases_eq i next) [
      | inl same ↦ subst (λ j. Knows w (slice_index targets j)) (sym same) knows
      | inr differ ↦ went.grew.adds.knows (slice_index targets i) (able.known i (omega (arith, lower, differ)))
    ]

-- a step tells where it went, whatever came of it
pub step_able :
    (p : PlanRecord) (targets stack : List ℕ) (next : ℕ) (v : DeskView) (b : List ℕ) (s : Step) (new : List ℕ) (w : DeskView) (c : List ℕ)
    → IsAble p targets next stack v → next < length targets → StepTells p targets stack v b s new w c → IsAble p targets next new w
step_able p targets stack next v b step.Moved new w c able less tells = able_moved p targets stack next v b new w c [] able less tells.0
step_able p targets stack next v b step.Ready new w c able less tells = able_moved p targets stack next v b new w c [] able less tells.0
step_able p targets stack next v b (step.Blocked k) new w c able less tells = able_moved p targets stack next v b new w c [] able less tells.0
step_able p targets stack next v b (step.Lost k) new w c able less tells = able_moved p targets stack next v b new w c [] able less tells.0
step_able p targets stack next v b step.Short new w c able less tells =
    able_moved p targets stack next v b new w c tells.more able less tells.went

-- how far a worker is in a call
pub record IsAt
    (p : PlanRecord) (targets stack : List ℕ) (v : DeskView) (b : List ℕ) (others : List ℕ) (next : ℕ) (new : List ℕ) (w : DeskView) (c : List ℕ) : Type 0 where
  pub same : others ≡ targets
  pub went : Went p targets stack v b new w c []
  pub less : work_left p new w ≤ work_left p stack v
  pub able : IsAble p targets next new w

pub at_start : (p : PlanRecord) (targets stack : List ℕ) (next : ℕ) (v : DeskView) (b : List ℕ) → IsAble p targets next stack v
    → IsAt p targets stack v b targets next stack v b
at_start p targets stack next v b able = record {
  same = refl;
  went = went_nowhere p targets stack v v b b [] able.fits (stays_same v) (sym (append-nil b));
  less = omega arith;
  able = able;
}

pub at_moved :
    (p : PlanRecord) (targets stack : List ℕ) (v : DeskView) (b others : List ℕ) (next : ℕ) (mid : List ℕ) (w : DeskView) (c later : List ℕ)
    (after : ℕ) (new : List ℕ) (x : DeskView) (d : List ℕ) → IsAt p targets stack v b others next mid w c → next < length others
    → later ≡ others → after ≡ next → StepTells p others mid w c step.Moved new x d
    → IsAt p targets stack v b later after new x d × (work_left p new x < work_left p mid w)
at_moved p targets stack v b others next mid w c later after new x d at less same is tells =
    let told = subst (λ ts. StepTells p ts mid w c step.Moved new x d) at.same tells in
    let there = subst (λ (ts : List ℕ). next < length ts) at.same less in (
      record {
        same = same ∙ at.same;
        went = went_then p targets stack v b mid w c new x d [] at.went told.0;
        less = omega (arith, at.less, told.1);
        able = subst (λ n. IsAble p targets n new x) (sym is) (able_moved p targets mid next w c new x d [] at.able there told.0);
      },
      told.1,
    )

pub at_ready :
    (p : PlanRecord) (targets stack : List ℕ) (v : DeskView) (b others : List ℕ) (next : ℕ) (mid : List ℕ) (w : DeskView) (c later : List ℕ)
    (after : ℕ) (new : List ℕ) (x : DeskView) (d : List ℕ) (target : ℕ) → IsAt p targets stack v b others next mid w c
    → next < length others → later ≡ others → after ≡ next → StepTells p others mid w c step.Ready new x d
    → target ≡ slice_index others next → Knows x target → new ≡ []
    → IsAt p targets stack v b later (after + 1) new x d × (work_left p new x ≤ work_left p mid w)
at_ready p targets stack v b others next mid w c later after new x d target at less same kept tells is knows none =
    let told = subst (λ ts. StepTells p ts mid w c step.Ready new x d) at.same tells in
    let there = subst (λ (ts : List ℕ). next < length ts) at.same less in
    let known = subst (λ i. Knows x i) (is ∙ ap (λ (ts : List ℕ). slice_index ts next) at.same) knows in (
      record {
        same = same ∙ at.same;
        went = went_then p targets stack v b mid w c new x d [] at.went told.0;
        less = omega (arith, at.less, told.1);
        able = subst (λ n. IsAble p targets (n + 1) new x) (sym kept) (able_ready p targets mid next w c new x d [] at.able there told.0 known none);
      },
      told.1,
    )

pub at_end :
    (p : PlanRecord) (targets stack : List ℕ) (v : DeskView) (b others : List ℕ) (next : ℕ) (mid : List ℕ) (w : DeskView) (c : List ℕ)
    (s : Step) (after : ℕ) (new : List ℕ) (x : DeskView) (d : List ℕ) → IsAt p targets stack v b others next mid w c
    → next < length others → after ≡ next → StepTells p others mid w c s new x d
    → StepTells p targets stack v b s new x d × IsAble p targets after new x × (next < length targets)
at_end p targets stack v b others next mid w c s after new x d at less is tells =
    let told = subst (λ ts. StepTells p ts mid w c s new x d) at.same tells in
    let there = subst (λ (ts : List ℕ). next < length ts) at.same less in (
      step_then p targets stack v b mid w c s new x d at.went at.less told,
      subst (λ n. IsAble p targets n new x) (sym is) (step_able p targets mid next w c s new x d at.able there told),
      there,
    )

pub at_there :
    (p : PlanRecord) (targets stack : List ℕ) (v : DeskView) (b others : List ℕ) (next : ℕ) (mid : List ℕ) (w : DeskView) (c : List ℕ)
    → IsAt p targets stack v b others next mid w c → next < length others
    → Fits p others mid w × IsReached p others (slice_index others next) × (slice_index others next < length p.entries)
at_there p targets stack v b others next mid w c at less =
    subst (λ (ts : List ℕ). next < length ts → Fits p ts mid w × IsReached p ts (slice_index ts next) × (slice_index ts next < length p.entries))
    (sym at.same) (λ there. (at.able.fits, reached_target p targets next there, at.able.there next there)) less

pub at_drawn :
    (p : PlanRecord) (targets stack : List ℕ) (v : DeskView) (b others : List ℕ) (next : ℕ) (mid : List ℕ) (w : DeskView) (c : List ℕ) (h : Held)
    → IsAt p targets stack v b others next mid w c → Fits p targets stack v → AreDrawn p targets stack v h → AreDrawn p others mid w h
at_drawn p targets stack v b others next mid w c h at fits drawn =
    subst (λ (ts : List ℕ). AreDrawn p ts mid w h) (sym at.same) (drawn_then p targets stack mid v w b c [] h drawn fits at.went)

-- ---- ends

-- what was claimed is given up at the end of a call
pub grew_gone :
    (p : PlanRecord) (targets gone : List ℕ) (v x w : DeskView) (b c more : List ℕ) → Grew p targets v x b c more []
    → Adds x w [] [] (tagged x.number gone) [] → Grew p targets v w b c more gone
grew_gone p targets gone v x w b c more g a = record {
  won = g.won;
  made = g.made;
  served = g.served;
  adds = simp append-nil at (adds_then v x w g.won g.made [] g.served [] [] gone [] g.adds a);
  bench = g.bench;
  reached = g.reached;
  ports = g.ports;
  closed = g.closed;
}

pub able_gone :
    (p : PlanRecord) (targets gone : List ℕ) (next : ℕ) (stack new : List ℕ) (x w : DeskView) → IsAble p targets next stack x
    → Adds x w [] [] (tagged x.number gone) [] → Fits p targets new w → new ≡ [] → IsAble p targets next new w
able_gone p targets gone next stack new x w able a fits none = record {
  fits = fits;
  there = able.there;
  within = able.within;
  known = λ i less. a.knows (slice_index targets i) (able.known i less);
  last = λ is. none;
}

pub lost_more :
    (v x w : DeskView) (k number : ℕ) (gone : List ℕ) → WasLost k v x → Adds x w [] [] (tagged number gone) [] → WasLost k v w
lost_more v x w k number gone lost a = record {
  met = λ shared.
      let before = lost.met shared in
      let more = meetings-grow is_lost k x.met w.met a.more a.met in
      omega (arith, before, more);
  lost = lost.lost;
}
