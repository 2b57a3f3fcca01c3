-- Lemmas on what a call of a worker tells
use Rattle.std.proofs.Common.{◌≡◌, ◌≢◌, ◌<◌, ℕ, Some, None, List, [], length, slice_index, sym, subst, ◌∙◌, arith}
use Rattle.std.proofs.lemmas.List.{append-nil}
use Rattle.xs_plan.specs.Record.{PlanRecord}
use Rattle.xs_core.specs.Views.{DeskView}
use Rattle.xs_core.specs.Calls.{Adds}
use Rattle.xs_worker.specs.declared.step.Step.TheVariants as step
use Rattle.xs_worker.specs.Piles.{last_or}
use Rattle.xs_worker.specs.Claims.{tagged, Fits, IsAble}
use Rattle.xs_worker.specs.Steps.{StepTells}
use Rattle.xs_worker.specs.Advances.{Standing, StandsAt, lost_after, HasFinished, IsBlocked, HasLost, FellShort}
use Rattle.xs_worker.proofs.GrewLemmas.{stays_same, went_nowhere}
use Rattle.xs_worker.proofs.RunLemmas.{grew_gone, able_gone, lost_more}

some_not_none : (k : ℕ) → Some k ≢ None
some_not_none k is = cc

-- ---- where it gave up before

pub lost_again :
    (p : PlanRecord) (s : Standing) (v : DeskView) (b : List ℕ) (k : ℕ) → StandsAt p s v → s.gone ≡ Some k → HasLost p s v b k s v b
lost_again p s v b k stands gone =
    let differ : s.gone ≢ None = (λ none. some_not_none k (sym gone ∙ none)) in
    let went = went_nowhere p s.targets s.stack v v b b [] stands.able.fits (stays_same v) (sym (append-nil b)) in
    let over = stands.over differ in
    record {
      given = [];
      grew = went.grew;
      gone = gone;
      stack = over.0;
      cause = λ none. absurd (differ none);
      again = λ _. gone;
    }

pub not_empty : (p : PlanRecord) (s : Standing) (v : DeskView) (k : ℕ) → StandsAt p s v → s.gone ≡ Some k → length s.targets ≡ 0 → ⊥
not_empty p s v k stands gone none =
    let over = stands.over (λ is. some_not_none k (sym gone ∙ is)) in
    omega (arith, over.1, none)

-- ---- the ends of a run

pub stands_on : (p : PlanRecord) (s : Standing) (v : DeskView) → IsAble p s.targets s.next s.stack v → s.gone ≡ None → StandsAt p s v
stands_on p s v able gone = record { able = able; over = λ differ. absurd (differ gone) }

pub stands_over :
    (p : PlanRecord) (s : Standing) (v : DeskView) → IsAble p s.targets s.next s.stack v → s.stack ≡ [] → 0 < length s.targets → StandsAt p s v
stands_over p s v able none some = record { able = able; over = λ differ. (none, some) }

pub finished :
    (p : PlanRecord) (s new : Standing) (v w : DeskView) (b c : List ℕ) → s.gone ≡ None → new.gone ≡ None
    → StepTells p s.targets s.stack v b step.Ready new.stack w c → IsAble p s.targets new.next new.stack w
    → new.next ≡ length s.targets → HasFinished p s v b new w c
finished p s new v w b c before gone tells able all = record {
  grew = tells.0.grew;
  before = before;
  gone = gone;
  stack = able.last all;
  ready = λ i less. able.known i (omega (arith, less, all));
}

pub blocked :
    (p : PlanRecord) (s new : Standing) (v w : DeskView) (b c : List ℕ) (k : ℕ) → s.gone ≡ None → new.gone ≡ None
    → StepTells p s.targets s.stack v b (step.Blocked k) new.stack w c → IsBlocked p s v b k new w c
blocked p s new v w b c k before gone tells = record { grew = tells.0.grew; before = before; gone = gone; busy = tells.1 }

pub lost :
    (p : PlanRecord) (s new : Standing) (mid : List ℕ) (v x w : DeskView) (b c : List ℕ) (k : ℕ) → s.gone ≡ None → new.gone ≡ Some k
    → StepTells p s.targets s.stack v b (step.Lost k) mid x c → Adds x w [] [] (tagged x.number mid) [] → new.stack ≡ []
    → HasLost p s v b k new w c
lost p s new mid v x w b c k before gone tells adds none = record {
  given = mid;
  grew = grew_gone p s.targets mid v x w b c [] tells.0.grew adds;
  gone = gone;
  stack = none;
  cause = λ _. lost_more v x w k x.number mid tells.1 adds;
  again = λ differ. absurd (differ before);
}

pub short :
    (p : PlanRecord) (s new : Standing) (mid : List ℕ) (v x w : DeskView) (b c : List ℕ) → s.gone ≡ None
    → new.gone ≡ Some (lost_after (last_or None mid) (slice_index s.targets 0)) → StepTells p s.targets s.stack v b step.Short mid x c
    → Adds x w [] [] (tagged x.number mid) [] → new.stack ≡ [] → FellShort p s v b new w c
short p s new mid v x w b c before gone tells adds none = record {
  more = tells.more;
  given = mid;
  one = tells.one;
  given_up = tells.claimed;
  grew = grew_gone p s.targets mid v x w b c tells.more tells.went.grew adds;
  before = before;
  gone = gone;
  stack = none;
}

pub able_same : (p : PlanRecord) (targets others : List ℕ) (next : ℕ) (stack : List ℕ) (v : DeskView) → others ≡ targets
    → IsAble p targets next stack v → IsAble p others next stack v
able_same p targets others next stack v same able = subst (λ ts. IsAble p ts next stack v) (sym same) able

pub able_over :
    (p q : PlanRecord) (targets first second : List ℕ) (next after : ℕ) (stack new : List ℕ) (x w : DeskView) → q ≡ p → first ≡ targets
    → second ≡ first → after ≡ next → IsAble p targets next stack x → Adds x w [] [] (tagged x.number stack) [] → Fits q first new w → new ≡ []
    → IsAble p second after new w
able_over p q targets first second next after stack new x w plan same still kept able adds fits none =
    let here : Fits p targets new w = subst (λ ts. Fits p ts new w) same (subst (λ r. Fits r first new w) plan fits) in
    let gone = able_gone p targets stack next stack new x w able adds here none in
    subst (λ n. IsAble p second n new w) (sym kept) (subst (λ ts. IsAble p ts next new w) (sym (still ∙ same)) gone)
