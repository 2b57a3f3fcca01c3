-- Lemmas on workers where an earlier one gave up
use Rattle.std.proofs.Common.{◌≡◌, ◌<◌, ◌+◌, ℕ, List, [], length, slice_index, ap, subst, sym, arith}
use Rattle.xs_plan.specs.Record.{PlanRecord}
use Rattle.xs_core.specs.Views.{DeskView, DeskOk, entries, times}
use Rattle.xs_worker.specs.Advances.{Standing, StandsAt, fresh_worker}
use Rattle.xs_worker.specs.Sections.{AreRoots, IsBegun, section_roots}

-- a new worker stands where one with the same targets has nothing claimed
pub stands_again :
    (p : PlanRecord) (s : Standing) (v : DeskView) (targets : List ℕ) → s.targets ≡ targets → s.stack ≡ [] → StandsAt p s v
    → ((q : PlanRecord) (list : List ℕ) (w : DeskView) → ((i : ℕ) → i < length list → slice_index list i < length q.entries)
    → ((k : ℕ) → entries k w.won ≡ entries k w.made + entries k w.lost) → StandsAt q (fresh_worker list) w)
    → StandsAt p (fresh_worker targets) v
stands_again p s v targets are idle stands law =
    law p targets v (subst (λ (l : List ℕ). (i : ℕ) → i < length l → slice_index l i < length p.entries) are stands.able.there)
    (λ k.
    let none : times k s.stack ≡ 0 = ap (times k) idle in
    omega (arith, none, stands.able.fits.claims k))

-- a new worker for a section that is begun stands at the seat
pub stands_first :
    (p q : PlanRecord) (s : ℕ) (w : Standing) (v : DeskView) → q ≡ p → w ≡ fresh_worker (section_roots p s) → IsBegun p s v → DeskOk q v
    → (AreRoots p s (section_roots p s) → IsBegun p s v → DeskOk p v → StandsAt p (fresh_worker (section_roots p s)) v)
    → AreRoots p s (section_roots p s) → StandsAt p w v
stands_first p q s w v same is begun ok law roots =
    subst (λ (x : Standing). StandsAt p x v) (sym is) (law roots begun (subst (λ (o : PlanRecord). DeskOk o v) same ok))
