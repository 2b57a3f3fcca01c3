-- Calls of the chief alone keep its lists
use Rattle.std.proofs.Common.{◌≡◌, ◌≢◌, ◌<◌, ◌≤◌, ◌+◌, ℕ, zero, suc, Bool, true, false, ◌&&◌, ◌==◌, nat_lt, cond, Some, List, [], ◌∷◌, ◌++◌, length, get_or, set, refl, sym, ap, ap₂, subst, ◌∙◌, inl, inr, arith, get_or-set_other}
use Rattle.std.proofs.lemmas.Bool.{cases_eq, cases_lt, cond_both, cond-false, eqb-true, eq-eqb, ne_eqb, both_ways, lt-ltb, and_from}
use Rattle.std.proofs.lemmas.List.{length-set, length_push, length-replicate, map-append, get_or_past}
use Rattle.std.proofs.lemmas.List.Sums.{sum_by-cons, sum_by_push}
use Rattle.xs_plan.specs.declared.job.Reader.{Reader}
use Rattle.xs_plan.specs.declared.job.Reader.TheVariants.{Port, Root}
use Rattle.xs_plan.specs.Record.{PlanRecord}
use Rattle.xs_plan.specs.Reads.{reads_in}
use Rattle.xs_core.specs.declared.event.Event.TheVariants.{Claim, Finish, Abandon, Retire, Clear}
use Rattle.xs_core.specs.declared.state.Phase.{Phase}
use Rattle.xs_core.specs.declared.state.Phase.TheVariants.{Idle, Claimed, Ready, Lost}
use Rattle.xs_core.specs.declared.state.ReadState.{ReadState}
use Rattle.xs_core.specs.declared.state.ReadState.TheVariants.{Waiting, InTurn, Served}
use Rattle.xs_core.specs.declared.state.TileState.{TileState}
use Rattle.xs_core.specs.declared.state.TileState.TheVariants.{Absent, Held, Leaving}
use Rattle.xs_core.specs.Counts.{one_if, how_many}
use Rattle.xs_core.specs.States.{World, phase_of, read_of, tile_of, with_read, with_tile, is_started, is_ready, is_lost, is_served, is_in_turn, is_open, seat_in, seat_of_reader, source_at, reader_at, left}
use Rattle.xs_core.specs.Events.{start, happens, left_by, MayServe}
use Rattle.xs_core.specs.Kept.{Fits, Kept}
use Rattle.xs_core.specs.Views.{signed, times, entries, HasClaimed, IsMine, MayRead, lacking, held_count}
use Rattle.xs_core.proofs.CountLemmas.{how_many-alike, how_many-some}
use Rattle.xs_core.proofs.StateLemmas.{get_or-set}
use Rattle.xs_core.proofs.KeptLemmas.{get_or-all}
use Rattle.xs_core.proofs.RunLemmas.{told-new, told-same, Fits-is_held}
use Rattle.xs_plain_desk.proofs.StoreLemmas.{left_by-left}
use Rattle.xs_plain_desk.specs.Stored.{is_held, is_leaving, retired}
use Rattle.xs_plain_desk.specs.Lists.{by_chief, chief, is_of_chief, IsListed}
use Rattle.xs_plain_desk.specs.ChiefLaw.{entries-by_chief, under-by_chief, one_if-le, one_if-true}

-- ---- lists of numbers

pub times-push : (k y : ℕ) (xs : List ℕ) → times k (xs ++ y ∷ []) ≡ times k xs + one_if (y == k)
times-push k y xs = sum_by_push (λ n. cond (n == k) 1 0) xs y ∙ ap (λ n. times k xs + n) (one (y == k))
  where
    one : (b : Bool) → cond {A = ℕ} b 1 0 ≡ one_if b
    one true = refl
    one false = refl

-- the sum of a function of the numbers below a bound
total : ℕ → (ℕ → ℕ) → ℕ
total zero f = 0
total (suc n) f = total n f + f n

total-none : (n : ℕ) → total n (λ k. 0) ≡ 0
unfolding total
total-none zero = refl
total-none (suc n) = omega (arith, total-none n)

total-le : (n : ℕ) (f : ℕ → ℕ) → ((k : ℕ) → k < n → f k ≤ 1) → total n f ≤ n
unfolding total
total-le zero f few = omega arith
total-le (suc n) f few = omega (arith, total-le n f (λ k less. few k (omega arith)), few n (omega arith))

total-alike : (n : ℕ) (f h : ℕ → ℕ) → ((k : ℕ) → k < n → f k ≡ h k) → total n f ≡ total n h
unfolding total
total-alike zero f h alike = refl
total-alike (suc n) f h alike = ap₂ (λ a b. a + b) (total-alike n f h (λ k less. alike k (omega arith))) (alike n (omega arith))

total-one : (n y : ℕ) (f h : ℕ → ℕ) → y < n → ((k : ℕ) → h k ≡ f k + one_if (y == k)) → total n h ≡ total n f + 1
unfolding total
total-one zero y f h less more = absurd (omega arith)
total-one (suc n) y f h less more =
    elim (cases_eq y n) [
      | inl same ↦
          let before = total-alike n h f (λ k lt. let none = ap one_if (ne_eqb y k (λ is. omega (arith, same, is, lt))) in omega (arith, more k, none)) in
          let here = ap one_if (eq-eqb y n same) in
          omega (arith, before, here, more n)
      | inr differ ↦
          let before = total-one n y f h (omega arith) more in
          let none = ap one_if (ne_eqb y n differ) in
          omega (arith, before, none, more n)
    ]

-- numbers below a bound are as many as they stand, each by itself
total-times : (n : ℕ) (xs : List ℕ) → ((k : ℕ) → 0 < times k xs → k < n) → total n (λ k. times k xs) ≡ length xs
total-times n [] within = total-none n
total-times n (x ∷ xs) within =
    let cons = λ (k : ℕ). sum_by-cons (λ m. cond (m == k) 1 0) x xs in
    let more = λ (k : ℕ). more_at k in
    let rest = total-times n xs (λ k some. within k (omega (arith, more_at k, some))) in
    let here : 0 < times x (x ∷ xs) = omega (arith, more_at x, ap one_if (eq-eqb x x refl)) in
    let one = total-one n x (λ k. times k xs) (λ k. times k (x ∷ xs)) (within x here) more_at in
    omega (arith, one, rest)
  where
    one_of : (b : Bool) → cond {A = ℕ} b 1 0 ≡ one_if b
    one_of true = refl
    one_of false = refl

    more_at : (k : ℕ) → times k (x ∷ xs) ≡ times k xs + one_if (x == k)
    more_at k = let cons = sum_by-cons (λ m. cond (m == k) 1 0) x xs in let one = one_of (x == k) in omega (arith, cons, one)

-- where a number is lacking in numbers that stand once, there is room for it
pub room :
    (n : ℕ) (xs : List ℕ) (y : ℕ) → ((k : ℕ) → times k xs ≤ 1) → ((k : ℕ) → 0 < times k xs → k < n) → times y xs ≡ 0 → y < n
    → length xs < n
room n xs y once within lacks there =
    let all = total-times n (xs ++ y ∷ []) (λ k some. below k some) in
    let few = total-le n (λ k. times k (xs ++ y ∷ [])) (λ k less. once_more k) in
    omega (arith, all, few, length_push xs y)
  where
    below : (k : ℕ) → 0 < times k (xs ++ y ∷ []) → k < n
    below k some = elim (cases_eq y k) [
      | inl same ↦ omega (arith, same, there)
      | inr differ ↦ let none = ap one_if (ne_eqb y k differ) in within k (omega (arith, times-push k y xs, some, none))
    ]

    once_more : (k : ℕ) → times k (xs ++ y ∷ []) ≤ 1
    once_more k = elim (cases_eq y k) [
      | inl same ↦
          let none = ap (λ m. times m xs) same in
          omega (arith, times-push k y xs, none, lacks, one_if-le (y == k))
      | inr differ ↦ let none = ap one_if (ne_eqb y k differ) in omega (arith, times-push k y xs, once k, none)
    ]

pub by_chief-push : (xs : List ℕ) (y : ℕ) → by_chief (xs ++ y ∷ []) ≡ by_chief xs ++ signed 0 y ∷ []
by_chief-push xs y = map-append (λ k. signed 0 k) xs (y ∷ [])

-- ---- what the lists tell

idle_phase : (s : Phase) → one_if (is_started s) ≡ 0 → s ≡ Idle
idle_phase Idle none = refl
idle_phase (Claimed seat) none = absurd (omega (arith, none))
idle_phase (Ready seat) none = absurd (omega (arith, none))
idle_phase Lost none = absurd (omega (arith, none))

claimed_phase : (s : Phase) → is_of_chief s ≡ true → one_if (is_ready s) + one_if (is_lost s) < one_if (is_started s) → s ≡ Claimed 0
claimed_phase Idle alone less = absurd (omega (arith, less))
claimed_phase (Claimed seat) alone less = ap Claimed (eqb-true seat 0 alone)
claimed_phase (Ready seat) alone less = absurd (omega (arith, less))
claimed_phase Lost alone less = absurd (omega (arith, less))

seat_phase : (s : Phase) → is_of_chief s ≡ true → one_if (is_lost s) < one_if (is_started s) → seat_in s ≡ Some 0
seat_phase Idle alone less = absurd (omega (arith, less))
seat_phase (Claimed seat) alone less = ap Some (eqb-true seat 0 alone)
seat_phase (Ready seat) alone less = ap Some (eqb-true seat 0 alone)
seat_phase Lost alone less = absurd (omega (arith, less))

seat_started : (s : Phase) → seat_in s ≡ Some 0 → is_started s ≡ true
seat_started Idle is = cc
seat_started (Claimed seat) is = refl
seat_started (Ready seat) is = refl
seat_started Lost is = cc

waiting_read : (r : ReadState) → is_in_turn r ≡ false → one_if (is_served r) ≡ 0 → r ≡ Waiting
waiting_read Waiting quiet none = refl
waiting_read (InTurn seat) quiet none = cc
waiting_read Served quiet none = absurd (omega (arith, none))

-- what the chief has claimed is claimed
pub claimed_is :
    (p : PlanRecord) (w : World) (won made lost served : List ℕ) → IsListed p w won made lost served → (k : ℕ)
    → HasClaimed (chief won made lost served) k → phase_of w k ≡ Claimed 0
claimed_is p w won made lost served h k claimed =
    claimed_phase (phase_of w k) (h.alone k)
    (omega (arith, claimed, entries-by_chief k won, entries-by_chief k made, entries-by_chief k lost, h.won_is k, h.made_is k, h.lost_is k))

-- what the chief may read is ready, and it may serve the read
pub may_serve :
    (p : PlanRecord) (w : World) (won made lost served : List ℕ) → IsListed p w won made lost served → (e : ℕ)
    → MayRead p (chief won made lost served) e → MayServe p w 0 e
may_serve p w won made lost served h e may = (
  mine (reader_at p e) may.mine,
  waiting_read (read_of w e) (h.no_turn e) (omega (arith, may.unserved, entries-by_chief e served, h.served_is e)),
  one_if-true (is_ready (phase_of w (source_at p e))) (omega (arith, may.known, h.made_is (source_at p e))),
)
  where
    mine : (r : Reader) → IsMine (chief won made lost served) r → seat_of_reader w r ≡ Some 0
    mine (Port alias port) is = seat_phase (phase_of w alias) (h.alone alias)
        (omega (arith, is, under-by_chief alias won, under-by_chief alias lost, h.won_is alias, h.lost_is alias))
    mine (Root row tile) is = refl

pub won_lacks :
    (p : PlanRecord) (w : World) (won made lost served : List ℕ) → IsListed p w won made lost served → (k : ℕ) → phase_of w k ≡ Idle → times k won ≡ 0
won_lacks p w won made lost served h k idle = h.won_is k ∙ ap (λ s. one_if (is_started s)) idle

pub made_lacks :
    (p : PlanRecord) (w : World) (won made lost served : List ℕ) → IsListed p w won made lost served → (k : ℕ) → phase_of w k ≡ Claimed 0 → times k made ≡ 0
made_lacks p w won made lost served h k claimed = h.made_is k ∙ ap (λ s. one_if (is_ready s)) claimed

pub lost_lacks :
    (p : PlanRecord) (w : World) (won made lost served : List ℕ) → IsListed p w won made lost served → (k : ℕ) → phase_of w k ≡ Claimed 0 → times k lost ≡ 0
lost_lacks p w won made lost served h k claimed = h.lost_is k ∙ ap (λ s. one_if (is_lost s)) claimed

-- ---- room

phase_within : (p : PlanRecord) (w : World) → length w.phases ≡ length p.entries → (says : Phase → Bool) → says Idle ≡ false
    → (k : ℕ) → 0 < one_if (says (phase_of w k)) → k < length p.entries
phase_within p w many says idle k some =
    elim (cases_lt k (length p.entries)) [
      | inl within ↦ within
      | inr past ↦
          let none = ap (λ s. one_if (says s)) (get_or_past w.phases k Idle (omega (arith, past, many))) ∙ ap one_if idle in
          absurd (omega (arith, some, none))
    ]

pub phase_room :
    (p : PlanRecord) (w : World) (says : Phase → Bool) (xs : List ℕ) (k : ℕ) → length w.phases ≡ length p.entries → says Idle ≡ false
    → ((j : ℕ) → times j xs ≡ one_if (says (phase_of w j))) → times k xs ≡ 0 → k < length p.entries → length xs < length p.entries
phase_room p w says xs k many idle is lacks there =
    room (length p.entries) xs k (λ j. omega (arith, is j, one_if-le (says (phase_of w j))))
    (λ j some. phase_within p w many says idle j (omega (arith, is j, some))) lacks there

pub read_room :
    (p : PlanRecord) (w : World) (xs : List ℕ) (e : ℕ) → length w.reads ≡ reads_in p
    → ((j : ℕ) → times j xs ≡ one_if (is_served (read_of w j))) → times e xs ≡ 0 → e < reads_in p → length xs < reads_in p
read_room p w xs e many is lacks there =
    room (reads_in p) xs e (λ j. omega (arith, is j, one_if-le (is_served (read_of w j)))) within lacks there
  where
    within : (j : ℕ) → 0 < times j xs → j < reads_in p
    within j some = elim (cases_lt j (reads_in p)) [
      | inl below ↦ below
      | inr past ↦
          let none = ap (λ r. one_if (is_served r)) (get_or_past w.reads j Waiting (omega (arith, past, many))) in
          absurd (omega (arith, some, is j, none))
    ]

-- ---- a phase changes

listed_phase :
    (p : PlanRecord) (w : World) (won made lost served won' made' lost' : List ℕ) (k : ℕ) (s : Phase) (tiles : List TileState)
    → IsListed p w won made lost served → k < length p.entries
    → ((j : ℕ) → times j won' ≡ one_if (is_started (get_or (set w.phases k s) j Idle)))
    → ((j : ℕ) → times j made' ≡ one_if (is_ready (get_or (set w.phases k s) j Idle)))
    → ((j : ℕ) → times j lost' ≡ one_if (is_lost (get_or (set w.phases k s) j Idle)))
    → is_of_chief s ≡ true → is_started s ≡ true → (is_ready (phase_of w k) ≡ true → is_ready s ≡ true)
    → length tiles ≡ length p.entries → ((j : ℕ) → is_leaving (get_or tiles j Absent) ≡ false)
    → IsListed p (record { phases = set w.phases k s; reads = w.reads; tiles = tiles }) won' made' lost' served
listed_phase p w won made lost served won' made' lost' k s tiles h there won_is made_is lost_is chiefs begun ready many quiet = record {
  phases_many = length-set w.phases k s ∙ h.phases_many;
  reads_many = h.reads_many;
  tiles_many = many;
  won_is = won_is;
  made_is = made_is;
  lost_is = lost_is;
  served_is = h.served_is;
  alone = λ j. get_or-set (λ (x : Phase). is_of_chief x ≡ true) w.phases k j s Idle in_phases (λ here. chiefs) (λ differ. h.alone j);
  no_turn = h.no_turn;
  no_leaving = quiet;
  ready = λ e is. get_or-set (λ (x : Phase). is_ready x ≡ true) w.phases k (source_at p e) s Idle in_phases
      (λ here. ready (ap (λ j. is_ready (phase_of w j)) (sym here) ∙ h.ready e is)) (λ differ. h.ready e is);
  owned = λ e alias port reader is. get_or-set (λ (x : Phase). is_started x ≡ true) w.phases k alias s Idle in_phases
      (λ here. begun) (λ differ. h.owned e alias port reader is);
}
  where
    in_phases : k < length w.phases
    in_phases = omega (arith, there, h.phases_many)

pub listed_claim :
    (p : PlanRecord) (w : World) (won made lost served : List ℕ) (k : ℕ) → IsListed p w won made lost served → k < length p.entries
    → phase_of w k ≡ Idle → IsListed p (happens p w (Claim 0 k)) (won ++ k ∷ []) made lost served
listed_claim p w won made lost served k h there idle =
    listed_phase p w won made lost served (won ++ k ∷ []) made lost k (Claimed 0) w.tiles h there
    (λ j. omega (arith, times-push j k won, h.won_is j, told-new is_started w.phases k j (Claimed 0) Idle in_phases (ap is_started idle) refl))
    (λ j. omega (arith, h.made_is j, told-same is_ready w.phases k j (Claimed 0) Idle in_phases (sym (ap is_ready idle))))
    (λ j. omega (arith, h.lost_is j, told-same is_lost w.phases k j (Claimed 0) Idle in_phases (sym (ap is_lost idle))))
    refl refl (λ ready. absurd (both_ways (is_ready (phase_of w k)) (ap is_ready idle) ready)) h.tiles_many h.no_leaving
  where
    in_phases : k < length w.phases
    in_phases = omega (arith, there, h.phases_many)

pub listed_finish :
    (p : PlanRecord) (w : World) (won made lost served : List ℕ) (k : ℕ) → IsListed p w won made lost served
    → k < length p.entries → phase_of w k ≡ Claimed 0 → IsListed p (happens p w (Finish 0 k)) won (made ++ k ∷ []) lost served
listed_finish p w won made lost served k h there claimed =
    listed_phase p w won made lost served won (made ++ k ∷ []) lost k (Ready 0) (set w.tiles k Held) h there
    (λ j. omega (arith, h.won_is j, told-same is_started w.phases k j (Ready 0) Idle in_phases (sym (ap is_started claimed))))
    (λ j. omega (arith, times-push j k made, h.made_is j, told-new is_ready w.phases k j (Ready 0) Idle in_phases (ap is_ready claimed) refl))
    (λ j. omega (arith, h.lost_is j, told-same is_lost w.phases k j (Ready 0) Idle in_phases (sym (ap is_lost claimed))))
    refl refl (λ ready. refl) (length-set w.tiles k Held ∙ h.tiles_many)
    (λ j. get_or-set (λ (t : TileState). is_leaving t
    ≡ false) w.tiles k j Held Absent (omega (arith, there, h.tiles_many)) (λ here. refl) (λ differ. h.no_leaving j))
  where
    in_phases : k < length w.phases
    in_phases = omega (arith, there, h.phases_many)

pub listed_abandon :
    (p : PlanRecord) (w : World) (won made lost served : List ℕ) (k : ℕ) → IsListed p w won made lost served → k < length p.entries
    → phase_of w k ≡ Claimed 0 → IsListed p (happens p w (Abandon 0 k)) won made (lost ++ k ∷ []) served
listed_abandon p w won made lost served k h there claimed =
    listed_phase p w won made lost served won made (lost ++ k ∷ []) k Lost w.tiles h there
    (λ j. omega (arith, h.won_is j, told-same is_started w.phases k j Lost Idle in_phases (sym (ap is_started claimed))))
    (λ j. omega (arith, h.made_is j, told-same is_ready w.phases k j Lost Idle in_phases (sym (ap is_ready claimed))))
    (λ j. omega (arith, times-push j k lost, h.lost_is j, told-new is_lost w.phases k j Lost Idle in_phases (ap is_lost claimed) refl))
    refl refl (λ ready. absurd (both_ways (is_ready (phase_of w k)) (ap is_ready claimed) ready)) h.tiles_many h.no_leaving
  where
    in_phases : k < length w.phases
    in_phases = omega (arith, there, h.phases_many)

-- ---- a read is served

-- phases and reads, whether the tile leaves or not
retired-phases : (p : PlanRecord) (w : World) (e : ℕ) → (retired p w e).phases ≡ w.phases
retired-phases p w e =
    cond_both (left p (happens p w (Retire 0 e)) (source_at p e) == 0) _ _ (λ (v : World). v.phases ≡ w.phases) (λ none. inner) (λ some. inner)
  where
    inner : (happens p w (Retire 0 e)).phases ≡ w.phases
    inner = cond_both (left p (with_read w e Served) (source_at p e) == 0) _ _ (λ (v : World). v.phases ≡ w.phases) (λ none. refl) (λ some. refl)

retired-reads : (p : PlanRecord) (w : World) (e : ℕ) → (retired p w e).reads ≡ set w.reads e Served
retired-reads p w e =
    cond_both (left p (happens p w (Retire 0 e)) (source_at p e) == 0) _ _ (λ (v : World). v.reads ≡ set w.reads e Served) (λ none. inner) (λ some. inner)
  where
    inner : (happens p w (Retire 0 e)).reads ≡ set w.reads e Served
    inner = cond_both (left p (with_read w e Served) (source_at p e) == 0) _ _ (λ (v : World). v.reads ≡ set w.reads e Served) (λ none. refl) (λ some. refl)

-- no tile is left leaving
retired-quiet :
    (p : PlanRecord) (w : World) (e : ℕ) → length w.tiles ≡ length p.entries → source_at p e < length p.entries
    → ((j : ℕ) → is_leaving (tile_of w j) ≡ false) → (j : ℕ) → is_leaving (tile_of (retired p w e) j) ≡ false
retired-quiet p w e many there quiet j =
    cond_both (left p (happens p w (Retire 0 e)) k == 0) _ _ (λ v. is_leaving (tile_of v j) ≡ false)
    (λ none. cleared) (λ some. subst (λ (v : World). is_leaving (tile_of v j) ≡ false) (sym (stays some)) (quiet j))
  where
    k : ℕ
    k = source_at p e

    w0 : World
    w0 = with_read w e Served

    left_tiles : length (left_by p w0 0 k).tiles ≡ length w.tiles
    left_tiles = cond_both (left p w0 k == 0) (with_tile w0 k (Leaving 0)) w0 (λ (v : World). length v.tiles ≡ length w.tiles)
        (λ none. length-set w.tiles k (Leaving 0)) (λ some. refl)

    others : j ≢ k → is_leaving (tile_of (left_by p w0 0 k) j) ≡ false
    others differ = cond_both (left p w0 k == 0) (with_tile w0 k (Leaving 0)) w0 (λ (v : World). is_leaving (tile_of v j) ≡ false)
        (λ none. ap is_leaving (get_or-set_other w.tiles k j (Leaving 0) Absent differ) ∙ quiet j) (λ some. quiet j)

    cleared : is_leaving (tile_of (happens p (left_by p w0 0 k) (Clear 0 k)) j) ≡ false
    cleared = get_or-set (λ (t : TileState). is_leaving t ≡ false) (left_by p w0 0 k).tiles k j Absent Absent
        (omega (arith, there, many, left_tiles)) (λ here. refl) others

    stays : (left p (left_by p w0 0 k) k == 0) ≡ false → left_by p w0 0 k ≡ w0
    stays some = cond-false (left p w0 k == 0) (with_tile w0 k (Leaving 0)) w0 (ap (λ n. n == 0) (sym (left_by-left p w0 0 k k)) ∙ some)

retired-tiles_many : (p : PlanRecord) (w : World) (e : ℕ) → length (retired p w e).tiles ≡ length w.tiles
retired-tiles_many p w e =
    cond_both (left p (happens p w (Retire 0 e)) k == 0) (happens p (happens p w (Retire 0 e)) (Clear 0 k)) (happens p w (Retire 0 e))
    (λ (v : World). length v.tiles ≡ length w.tiles)
    (λ none. length-set (happens p w (Retire 0 e)).tiles k Absent ∙ inner) (λ some. inner)
  where
    k : ℕ
    k = source_at p e

    inner : length (happens p w (Retire 0 e)).tiles ≡ length w.tiles
    inner = cond_both (left p (with_read w e Served) k == 0) (with_tile (with_read w e Served) k (Leaving 0)) (with_read w e Served)
        (λ (v : World). length v.tiles ≡ length w.tiles) (λ none. length-set w.tiles k (Leaving 0)) (λ some. refl)

pub listed_retire :
    (p : PlanRecord) (w : World) (won made lost served : List ℕ) (e : ℕ) → IsListed p w won made lost served → e < reads_in p
    → MayServe p w 0 e → IsListed p (retired p w e) won made lost (served ++ e ∷ [])
listed_retire p w won made lost served e h there may =
    subst (λ (v : World). IsListed p v won made lost (served ++ e ∷ [])) (sym is) (record {
      phases_many = h.phases_many;
      reads_many = length-set w.reads e Served ∙ h.reads_many;
      tiles_many = retired-tiles_many p w e ∙ h.tiles_many;
      won_is = h.won_is;
      made_is = h.made_is;
      lost_is = h.lost_is;
      served_is = λ j. omega (arith, times-push j e served, h.served_is j, told-new is_served w.reads e j Served Waiting in_reads (ap is_served may.1) refl);
      alone = h.alone;
      no_turn = λ j. get_or-set (λ (r : ReadState). is_in_turn r ≡ false) w.reads e j Served Waiting in_reads (λ here. refl) (λ differ. h.no_turn j);
      no_leaving = retired-quiet p w e h.tiles_many source_there h.no_leaving;
      ready = λ j. get_or-set (λ (r : ReadState). is_served r ≡ true → is_ready (phase_of w (source_at p j)) ≡ true) w.reads e j Served Waiting in_reads
          (λ here served_now. subst (λ (i : ℕ). is_ready (phase_of w (source_at p i)) ≡ true) (sym here) may.2) (λ differ. h.ready j);
      owned = λ j alias port reader. get_or-set (λ (r : ReadState). is_served r ≡ true
          → is_started (phase_of w alias) ≡ true) w.reads e j Served Waiting in_reads
          (λ here served_now. seat_started (phase_of w alias)
          (subst (λ (r : Reader). seat_of_reader w r ≡ Some 0) (ap (reader_at p) (sym here) ∙ reader) may.0))
          (λ differ. h.owned j alias port reader);
    })
  where
    in_reads : e < length w.reads
    in_reads = omega (arith, there, h.reads_many)

    source_there : source_at p e < length p.entries
    source_there = phase_within p w h.phases_many is_ready refl (source_at p e) (let one = ap one_if may.2 in omega (arith, one))

    is : retired p w e ≡ record { phases = w.phases; reads = set w.reads e Served; tiles = (retired p w e).tiles }
    is = ap₂ (λ (phases : List Phase) (reads : List ReadState). let v : World = record { phases = phases; reads = reads; tiles = (retired p w e).tiles } in v)
        (retired-phases p w e) (retired-reads p w e)

-- ---- what is left, and what is held

opened : (r : ReadState) → is_open r ≡ (one_if (is_served r) == 0)
opened Waiting = refl
opened (InTurn seat) = refl
opened Served = refl

pub left-lacking :
    (p : PlanRecord) (w : World) (won made lost served : List ℕ) → IsListed p w won made lost served → (k : ℕ)
    → left p w k ≡ lacking p (by_chief served) k
left-lacking p w won made lost served h k =
    how_many-alike (reads_in p) (λ e. (source_at p e == k) && is_open (read_of w e))
    (λ e. (source_at p e == k) && (entries e (by_chief served) == 0))
    (λ e less. ap (λ b. (source_at p e == k) && b)
    (opened (read_of w e) ∙ ap (λ n. n == 0) (sym (entries-by_chief e served ∙ h.served_is e))))

fits_held : (b : Bool) (n : ℕ) (t : TileState) → Fits b n t → is_held t ≡ (nat_lt 0 (one_if b) && nat_lt 0 n)
fits_held true n Held fits = sym (lt-ltb 0 n fits)
fits_held true n (Leaving seat) fits = sym (ap (nat_lt 0) fits)
fits_held true n Absent fits = sym (ap (nat_lt 0) fits)
fits_held false n Absent fits = refl
fits_held false n Held fits = absurd fits
fits_held false n (Leaving seat) fits = absurd fits

pub held_is :
    (p : PlanRecord) (w : World) (won made lost served : List ℕ) → IsListed p w won made lost served → Kept p w
    → how_many (length p.entries) (λ k. is_held (tile_of w k)) ≡ held_count p (chief won made lost served)
held_is p w won made lost served h kept =
    how_many-alike (length p.entries) (λ k. is_held (tile_of w k)) (λ k. nat_lt 0 (entries k (by_chief made)) && nat_lt 0 (lacking p (by_chief served) k))
    (λ k less. fits_held (is_ready (phase_of w k)) (left p w k) (tile_of w k) (kept.fits k)
    ∙ ap₂ (λ a b. nat_lt 0 a && nat_lt 0 b) (sym (entries-by_chief k made ∙ h.made_is k)) (left-lacking p w won made lost served h k))

-- ---- the start

pub listed_start : (p : PlanRecord) → IsListed p (start p) [] [] [] []
listed_start p = record {
  phases_many = length-replicate (length p.entries) Idle;
  reads_many = length-replicate (reads_in p) Waiting;
  tiles_many = length-replicate (length p.entries) Absent;
  won_is = λ k. sym (ap (λ s. one_if (is_started s)) (get_or-all (length p.entries) k Idle));
  made_is = λ k. sym (ap (λ s. one_if (is_ready s)) (get_or-all (length p.entries) k Idle));
  lost_is = λ k. sym (ap (λ s. one_if (is_lost s)) (get_or-all (length p.entries) k Idle));
  served_is = λ e. sym (ap (λ r. one_if (is_served r)) (get_or-all (reads_in p) e Waiting));
  alone = λ k. ap is_of_chief (get_or-all (length p.entries) k Idle);
  no_turn = λ e. ap is_in_turn (get_or-all (reads_in p) e Waiting);
  no_leaving = λ k. ap is_leaving (get_or-all (length p.entries) k Absent);
  ready = λ e is. absurd (both_ways (is_served (read_of (start p) e)) (ap is_served (get_or-all (reads_in p) e Waiting)) is);
  owned = λ e alias port reader is. absurd (both_ways (is_served (read_of (start p) e)) (ap is_served (get_or-all (reads_in p) e Waiting)) is);
}

-- what the chief may read is held
pub held_to_read :
    (p : PlanRecord) (w : World) (won made lost served : List ℕ) → IsListed p w won made lost served → Kept p w → (e : ℕ)
    → MayRead p (chief won made lost served) e → tile_of w (source_at p e) ≡ Held
held_to_read p w won made lost served h kept e may =
    let k = source_at p e in
    let serving = may_serve p w won made lost served h e may in
    let counts : ((k == k) && is_open (read_of w e)) ≡ true = and_from (k == k) (is_open (read_of w e)) (eq-eqb k k refl) (ap is_open serving.1) in
    Fits-is_held (is_ready (phase_of w k)) (left p w k) (tile_of w k) (kept.fits k) serving.2
    (how_many-some (reads_in p) e (λ i. (source_at p i == k) && is_open (read_of w i)) may.within counts)
