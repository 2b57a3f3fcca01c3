-- A step that keeps the rule, and is an event or none, keeps the rule with its history
use Rattle.std.proofs.Common.{◌≡◌, ◌<◌, ◌≤◌, ◌/◌, ℕ, zero, suc, Option, Some, None, List, [], ◌∷◌, ◌++◌, length, get_or, set, replicate, refl, sym, ap, ap₂, subst, ◌∙◌, inl, inr, arith, eq-zero-or-pos}
use Rattle.std.proofs.lemmas.List.{get_or-replicate}
use mathlib.Core.Option.{some}
use lib.ListN.{get_elem?}
use Rattle.atomic_table.specs.Table.{State, carried_after, homes_after, stepped, Allows, opening}
use Rattle.xs_pixel.specs.Picture.{Pictures}
use Rattle.xs_plan.specs.Record.{PlanRecord}
use Rattle.xs_plan.specs.Reads.{reads_in}
use Rattle.xs_plan.specs.Valid.{IsPlan}
use Rattle.xs_plan.specs.declared.job.Reader.{Reader}
use Rattle.xs_plan.specs.declared.job.Reader.TheVariants.{Port, Root}
use Rattle.xs_core.specs.declared.event.Event.{Event}
use Rattle.xs_core.specs.declared.state.Phase.TheVariants.{Idle}
use Rattle.xs_core.specs.declared.state.ReadState.TheVariants.{Waiting}
use Rattle.xs_core.specs.declared.state.TileState.TheVariants.{Absent}
use Rattle.xs_core.specs.States.{World, seat_in, seat_of_reader}
use Rattle.xs_core.specs.Events.{start, IsOf, Allowed, happens}
use Rattle.xs_core.specs.Runs.{run, IsRun}
use Rattle.xs_core.specs.Views.{under}
use Rattle.xs_word_desk.specs.declared.view.View.{View}
use Rattle.xs_word_desk.specs.Sums.{total}
use Rattle.xs_word_desk.specs.Words.{Shape, Unclaimed, Taken, GivenUp, Finished}
use Rattle.xs_word_desk.specs.Seen.{wins, loses}
use Rattle.xs_word_desk.specs.Rule.{Slot, Agrees, Holds}
use Rattle.xs_word_desk.specs.Changes.{first_view}
use Rattle.xs_word_desk.specs.Plays.{At}
use Rattle.xs_word_desk.specs.Own.{Own, IsOwn, owner_under}
use Rattle.xs_word_desk.specs.Shown.{each_below, winner, leaver, phase_shown, tile_shown, phase_at, read_at, tile_at, shown}
use Rattle.xs_word_desk.specs.Traced.{Traced, Effect, IsEvent}
use Rattle.xs_word_desk.proofs.SumLemmas.{at_set, total_gap, term_le}
use Rattle.xs_word_desk.proofs.ViewLemmas.{one_at}
use Rattle.xs_word_desk.proofs.OwnLemmas.{under_le, own_first}
use Rattle.xs_word_desk.proofs.ClaimSteps.{won_in-most}
use Rattle.xs_word_desk.proofs.OpeningLemmas.{no_tiles, opens, only_first}
use Rattle.xs_word_desk.proofs.ShownLemmas.{under_some, numbers_one, finished_phase, phase_is, world_is}
use Rattle.xs_word_desk.proofs.StepLaws.{own_winner}

-- ---- runs grow at their end

is_run_more :
    (p : PlanRecord) (w : World) (events : List Event) (event : Event) → IsRun p w events → IsOf p event
    → Allowed p (run p w events) event → IsRun p w (events ++ event ∷ [])
is_run_more p w [] event ran there allowed = (there, allowed, tt)
is_run_more p w (first ∷ events) event ran there allowed =
    (ran.0, ran.1, is_run_more p (happens p w first) events event ran.2 there allowed)

run_more :
    (p : PlanRecord) (w : World) (events : List Event) (event : Event)
    → run p w (events ++ event ∷ []) ≡ happens p (run p w events) event
run_more p w [] event = refl
run_more p w (first ∷ events) event = run_more p (happens p w first) events event

module _ (told : Option Pictures) (p : PlanRecord) where
  pub extended :
      (s t : State Slot View) (event : Option Event) → Traced told p s → Holds told p t
      → ((id : ℕ) (v : View) → get_elem? t.views id ≡ some v → Own p v) → Effect p s t event → Traced told p t
  extended s t None traced board own same = record {
    board = board;
    own = own;
    events = traced.events;
    ran = traced.ran;
    shows = same ∙ traced.shows;
  }
  extended s t (Some event) traced board own is = record {
    board = board;
    own = own;
    events = traced.events ++ event ∷ [];
    ran = is_run_more p (start p) traced.events event traced.ran is.there
        (subst (λ (w : World). Allowed p w event) traced.shows is.allowed);
    shows = is.happened ∙ ap (λ (w : World). happens p w event) traced.shows ∙ sym (run_more p (start p) traced.events event);
  }

  -- one view changes
  own_set :
      (views : List View) (id : ℕ) (w : View) → ((j : ℕ) (u : View) → get_elem? views j ≡ some u → Own p u) → Own p w
      → (j : ℕ) (u : View) → get_elem? (set views id w) j ≡ some u → Own p u
  own_set views id w all own j u at = elim (at_set views id j w u at) [
    | inl here ↦ subst (Own p) here.1 own
    | inr there ↦ all j u there.1
  ]

  pub traces :
      (n id k : ℕ) (m : At) (f : ℕ → ℕ) (tells : ℕ → At → Type 0) (event : ℕ → Option Event)
      → Allows (Holds told p) n id m k f tells → IsEvent told p id m k f tells event
      → Allows (Traced told p) n id m k f tells
  traces n id k m f tells event allows is s traced deep me fits =
      let a = allows s traced.board deep me fits in
      let b = is s traced.board (traced.own id m.0 me) me fits a.0 (carried_after m.1 a.1) (homes_after s.homes m.1 a.1) a.4 in (
        a.0,
        a.1,
        a.2,
        extended s (stepped s k (f (get_or s.words k 0)) id m.1 a.0 a.1) (event (get_or s.words k 0)) traced a.3
            (own_set s.views id a.0 traced.own b.0) b.1,
        a.4,
      )

  -- ---- whose a read is

  pub own_some : (r : Reader) (v : View) → IsOwn r v.number v.won v.lost → 0 < owner_under r v.number v.won
  own_some (Port alias port) v mine = omega (arith, mine)
  own_some (Root row tile) v mine = omega (arith, one_at v.number 0 mine)

  -- an alias that a seat won under its own number and has not lost nobody has lost
  unlost :
      (s : State Slot View) (id k : ℕ) (v : View) → Holds told p s → Own p v → get_elem? s.views id ≡ some v
      → k < length p.entries → under v.number k v.lost < under v.number k v.won → total (loses k) s.views ≡ 0
  unlost s id k v holds own me there mine = elim (eq-zero-or-pos (total (loses k) s.views)) [
    | inl none ↦ none
    | inr some_lost ↦
        let part = holds.parts k there in
        let most = won_in-most told p part.shape in
        let won = under_le v.number k v.won in
        let once = term_le (wins k) s.views id v me in
        let backed : (j : ℕ) (u : View) → get_elem? s.views j ≡ some u → loses k u ≤ wins k u =
        λ j u at. omega (arith, (holds.views j u at).backed k) in
        let gap = total_gap (loses k) (wins k) s.views id v backed me in
        let lost = under_some k v.lost (omega (arith, gap, some_lost, part.agrees.won, most, mine, won)) in
        let few : wins k v ≤ 1 = omega (arith, once, part.agrees.won, most) in
        let its : lost.0 ≡ v.number = sym (numbers_one lost.0 k v.won few (omega (arith, own.backed_under lost.0 k, lost.1)))
        ∙ numbers_one v.number k v.won few (omega (arith, mine)) in
        let here : 0 < under v.number k v.lost = subst (λ (n : ℕ). 0 < under n k v.lost) its lost.1 in
        absurd (omega (arith, here, mine, won, few))
  ]

  claimer :
      (s : State Slot View) (k number : ℕ) (shape : Shape)
      → Agrees told p k (get_or s.words k 0) (get_elem? s.homes k) s.views shape → 0 < total (wins k) s.views
      → total (loses k) s.views ≡ 0 → winner s.views k ≡ number
      → seat_in (phase_at s.words s.views k) ≡ Some number
  claimer s k number Unclaimed was won lost seat = absurd (omega (arith, was.won, won))
  claimer s k number Taken was won lost seat = ap₂ (λ n m. seat_in (phase_shown n m)) was.says seat
  claimer s k number GivenUp was won lost seat = absurd (omega (arith, was.lost, lost))
  claimer s k number (Finished turn cleared reads) was won lost seat =
      ap seat_in (finished_phase (get_or s.words k 0) (winner s.views k) (omega (arith, was.says))) ∙ ap Some seat

  -- a seat's own read belongs to it in the state shown
  pub belongs :
      (s : State Slot View) (id : ℕ) (v : View) (r : Reader) → Holds told p s → Own p v → get_elem? s.views id ≡ some v
      → IsOwn r v.number v.won v.lost → seat_of_reader (shown p s) r ≡ Some v.number
  belongs s id v (Root row tile) holds own me mine = ap Some (sym mine)
  belongs s id v (Port alias port) holds own me mine =
      let won = under_le v.number alias v.won in
      let there = (holds.views id v me).within alias (omega (arith, mine, won)) in
      let part = holds.parts alias there in
      let once = term_le (wins alias) s.views id v me in
      ap seat_in (phase_is p s alias there)
      ∙ claimer s alias v.number part.shape part.agrees (omega (arith, mine, won, once))
      (unlost s id alias v holds own me there mine) (own_winner told p s id alias v holds me (omega (arith, mine)))

-- ---- at the start

below-same : {A : Type 0} (n : ℕ) (f : ℕ → A) (a : A) → ((i : ℕ) → i < n → f i ≡ a) → each_below n f ≡ replicate n a
below-same zero f a same = refl
below-same (suc n) f a same =
    ap₂ (λ x xs. x ∷ xs) (same 0 (omega arith)) (below-same n (λ i. f (suc i)) a (λ i less. same (suc i) (omega arith)))

pub starts :
    (told : Option Pictures) (p : PlanRecord) → IsPlan p
    → Traced told p (opening (replicate (length p.entries) 0) (no_tiles (length p.entries)) (first_view p))
starts told p plan =
    let words : List ℕ = replicate (length p.entries) 0 in
    let views : List View = first_view p ∷ [] in record {
      board = opens told p plan;
      own = λ id v at. subst (Own p) (only_first p id v at).1 (own_first p);
      events = [];
      ran = tt;
      shows = world_is _ _ _ _ _ _
          (below-same (length p.entries) (phase_at words views) Idle
          (λ k less. ap (λ n. phase_shown n (winner views k)) (get_or-replicate {A = ℕ} (length p.entries) k 0 0 less)))
          (below-same (reads_in p) (read_at views) Waiting (λ e less. refl))
          (below-same (length p.entries) (tile_at words views) Absent
          (λ k less. tile_none k (get_or-replicate {A = ℕ} (length p.entries) k 0 0 less)));
    }
  where
    tile_none :
        (k : ℕ) → get_or {A = ℕ} (replicate (length p.entries) 0) k 0 ≡ 0
        → tile_at (replicate (length p.entries) 0) (first_view p ∷ []) k ≡ Absent
    tile_none k none = ap (λ n. tile_shown 0 (leaver (first_view p ∷ []) k) (n / 16)) none
