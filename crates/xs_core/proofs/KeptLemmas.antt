-- Every event keeps what states keep
use Rattle.std.proofs.Common.{◌≡◌, ◌<◌, ◌≤◌, ◌+◌, ◌-◌, ℕ, Bool, true, false, ◌&&◌, ◌==◌, List, length, get_or, set, refl, sym, ap, subst, ◌∙◌, inl, inr, arith, get_or-set_same, get_or-set_other, replicate}
use Rattle.std.proofs.lemmas.Bool.{cases_eq, cases_Bool, and_right, and_parts, both_ways, cond-true, cond-false, eqb-true, eq-eqb, ne_eqb}
use Rattle.std.proofs.lemmas.List.{length-set, length-replicate, get_or-replicate, get_or_past, get_or_default}
use Rattle.std.proofs.lemmas.Bool.{cases_lt}
use Rattle.xs_plan.specs.Record.{PlanRecord}
use Rattle.xs_plan.specs.Reads.{reads_in}
use Rattle.xs_plan.specs.Valid.{IsPlan}
use Rattle.xs_core.specs.declared.state.Phase.{Phase}
use Rattle.xs_core.specs.declared.state.Phase.TheVariants.{Idle, Claimed, Ready, Lost}
use Rattle.xs_core.specs.declared.state.ReadState.{ReadState}
use Rattle.xs_core.specs.declared.state.ReadState.TheVariants.{Waiting, InTurn, Served}
use Rattle.xs_core.specs.declared.state.TileState.{TileState}
use Rattle.xs_core.specs.declared.state.TileState.TheVariants.{Absent, Held, Leaving}
use Rattle.xs_core.specs.Counts.{one_if}
use Rattle.xs_core.specs.States.{World, phase_of, read_of, tile_of, with_phase, with_read, with_tile, is_ready, is_waiting, is_in_turn, is_open, is_served, source_at, left, served, turns}
use Rattle.xs_core.specs.Events.{start, MayServe, left_by}
use Rattle.xs_core.specs.Kept.{Fits, Kept, IsKept, IsCounted, CoreRecord, core_in}
use Rattle.xs_core.proofs.CountLemmas.{one_if-le, how_many-none}
use Rattle.xs_core.proofs.StateLemmas.{get_or-set, said-set, reads_where-set, reads_where-same, left-served}

-- an element of equal ones, also past the end
pub get_or-all : {A : Type 0} (n i : ℕ) (a : A) → get_or (replicate n a) i a ≡ a
get_or-all n i a =
    elim (cases_lt i n) [
      | inl within ↦ get_or-replicate n i a a within
      | inr past ↦ get_or_past (replicate n a) i a (omega (arith, length-replicate n a))
    ]

-- no read of a claimed alias, or of an idle one, is served
pub served-none : (p : PlanRecord) (w : World) → Kept p w → (k : ℕ) → is_ready (phase_of w k) ≡ false → served p w k ≡ 0
served-none p w kept k unready =
    how_many-none (reads_in p) (λ e. (source_at p e == k) && is_served (read_of w e))
    (λ e less. elim (cases_Bool ((source_at p e == k) && is_served (read_of w e))) [
      | inl is ↦
          let parts = and_parts (source_at p e == k) (is_served (read_of w e)) is in
          let of_k = eqb-true (source_at p e) k parts.0 in
          let ready = kept.ready e (not_waiting (read_of w e) parts.1) in
          absurd (both_ways (is_ready (phase_of w k)) unready (subst (λ (j : ℕ). is_ready (phase_of w j) ≡ true) of_k ready))
      | inr other ↦ other
    ])
  where
    not_waiting : (r : ReadState) → is_served r ≡ true → is_waiting r ≡ false
    not_waiting Waiting is = cc
    not_waiting (InTurn seat) is = refl
    not_waiting Served is = refl

-- so some are open
pub left-some :
    (p : PlanRecord) (w : World) → IsPlan p → Kept p w → (k : ℕ) → k < length p.entries → is_ready (phase_of w k) ≡ false
    → 0 < left p w k
left-some p w plan kept k there unready = omega (arith, kept.counted k, served-none p w kept k unready, plan.read k there)

pub kept_start : (p : PlanRecord) → Kept p (start p)
kept_start p = record {
  phases_many = length-replicate (length p.entries) Idle;
  reads_many = length-replicate (reads_in p) Waiting;
  tiles_many = length-replicate (length p.entries) Absent;
  ready = λ e began. absurd (both_ways (is_waiting (read_of (start p) e)) began (ap is_waiting (get_or-all (reads_in p) e Waiting)));
  one_turn = λ k. let none = how_many-none (reads_in p) (λ e. (source_at p e == k) && is_in_turn (read_of (start p) e))
      (λ e less. and_right (source_at p e == k) (is_in_turn (read_of (start p) e)) (ap is_in_turn (get_or-all (reads_in p) e Waiting))) in omega (arith, none);
  fits = λ k. subst (λ (s : Phase). Fits (is_ready s) (left p (start p) k) (tile_of (start p) k)) (sym (get_or-all (length p.entries) k Idle))
      (subst (λ (t : TileState). Fits false (left p (start p) k) t) (sym (get_or-all (length p.entries) k Absent)) tt);
  counted = λ k. left-served p (start p) k;
}

-- an alias is in another phase, and as ready as before
pub kept_phase :
    (p : PlanRecord) (w : World) (k : ℕ) (s : Phase) → Kept p w → k < length p.entries → is_ready s ≡ is_ready (phase_of w k)
    → Kept p (with_phase w k s)
kept_phase p w k s kept there same = record {
  phases_many = length-set w.phases k s ∙ kept.phases_many;
  reads_many = kept.reads_many;
  tiles_many = kept.tiles_many;
  ready = λ e began. alike (source_at p e) ∙ kept.ready e began;
  one_turn = kept.one_turn;
  fits = λ j. subst (λ (b : Bool). Fits b (left p w j) (tile_of w j)) (sym (alike j)) (kept.fits j);
  counted = kept.counted;
}
  where
    alike : (j : ℕ) → is_ready (phase_of (with_phase w k s) j) ≡ is_ready (phase_of w j)
    alike j = said-set is_ready w.phases k j s Idle (omega (arith, kept.phases_many)) same

-- a read is in another state, and as open as before
pub kept_read :
    (p : PlanRecord) (w : World) (e : ℕ) (s : ReadState) → Kept p w → e < reads_in p → is_open s ≡ is_open (read_of w e)
    → (is_waiting s ≡ false → is_ready (phase_of w (source_at p e)) ≡ true)
    → ((k : ℕ) → turns p (with_read w e s) k ≤ 1) → Kept p (with_read w e s)
kept_read p w e s kept there same ready one = record {
  phases_many = kept.phases_many;
  reads_many = length-set w.reads e s ∙ kept.reads_many;
  tiles_many = kept.tiles_many;
  ready = λ i. get_or-set (λ (r : ReadState). is_waiting r ≡ false → is_ready (phase_of w (source_at p i)) ≡ true) w.reads e i s Waiting
      (omega (arith, kept.reads_many)) (λ at began. subst (λ (j : ℕ). is_ready (phase_of w (source_at p j))
      ≡ true) (sym at) (ready began)) (λ differ. kept.ready i);
  one_turn = one;
  fits = λ k. subst (λ (n : ℕ). Fits (is_ready (phase_of w k)) n (tile_of w k))
      (sym (reads_where-same is_open p w e s k kept.reads_many there same)) (kept.fits k);
  counted = λ k. left-served p (with_read w e s) k;
}

-- ---- turns

-- a read gets its turn
pub turns-more :
    (p : PlanRecord) (w : World) (e seat k : ℕ) → length w.reads ≡ reads_in p → e < reads_in p → read_of w e ≡ Waiting
    → turns p (with_read w e (InTurn seat)) k ≡ turns p w k + one_if (source_at p e == k)
turns-more p w e seat k many there waits =
    let step = reads_where-set is_in_turn p w e (InTurn seat) k many there in
    let before : one_if ((source_at p e == k) && is_in_turn (read_of w e)) ≡ 0 =
    ap one_if (and_right (source_at p e == k) (is_in_turn (read_of w e)) (ap is_in_turn waits)) in
    let now : one_if ((source_at p e == k) && true) ≡ one_if (source_at p e == k) = both (source_at p e == k) in
    omega (arith, step, before, now)
  where
    both : (b : Bool) → one_if (b && true) ≡ one_if b
    both true = refl
    both false = refl

-- and gives it back
pub turns-less :
    (p : PlanRecord) (w : World) (e seat k : ℕ) → length w.reads ≡ reads_in p → e < reads_in p → read_of w e ≡ InTurn seat
    → turns p (with_read w e Waiting) k + one_if (source_at p e == k) ≡ turns p w k
turns-less p w e seat k many there in_turn =
    let step = reads_where-set is_in_turn p w e Waiting k many there in
    let before : one_if ((source_at p e == k) && is_in_turn (read_of w e)) ≡ one_if (source_at p e == k) =
    ap (λ r. one_if ((source_at p e == k) && is_in_turn r)) in_turn ∙ both (source_at p e == k) in
    let now : one_if ((source_at p e == k) && false) ≡ 0 = ap one_if (and_right (source_at p e == k) false refl) in
    omega (arith, step, before, now)
  where
    both : (b : Bool) → one_if (b && true) ≡ one_if b
    both true = refl
    both false = refl

-- a read that is in turn has its turn counted
pub one_if-same : (a : ℕ) → one_if (a == a) ≡ 1
one_if-same a = ap one_if (eq-eqb a a refl)

pub one_if-differ : (a b : ℕ) → (a ≡ b → ⊥) → one_if (a == b) ≡ 0
one_if-differ a b differ = ap one_if (ne_eqb a b differ)

pub kept_turn :
    (p : PlanRecord) (w : World) (e seat : ℕ) → Kept p w → e < reads_in p → MayServe p w seat e → turns p w (source_at p e) ≡ 0
    → Kept p (with_read w e (InTurn seat))
kept_turn p w e seat kept there may none =
    kept_read p w e (InTurn seat) kept there (sym (ap is_open may.1)) (λ began. may.2) (λ k.
    let more = turns-more p w e seat k kept.reads_many there may.1 in
    elim (cases_eq (source_at p e) k) [
      | inl same ↦ let few = ap (turns p w) same in omega (arith, more, few, one_if-le (source_at p e == k))
      | inr differ ↦ omega (arith, more, one_if-differ (source_at p e) k differ, kept.one_turn k)
    ])

pub kept_give :
    (p : PlanRecord) (w : World) (e seat : ℕ) → Kept p w → e < reads_in p → read_of w e ≡ InTurn seat → Kept p (with_read w e Waiting)
kept_give p w e seat kept there in_turn =
    kept_read p w e Waiting kept there (sym (ap is_open in_turn)) (λ began. absurd (both_ways true began refl))
    (λ k. omega (arith, turns-less p w e seat k kept.reads_many there in_turn, kept.one_turn k))

-- ---- claim and abandon

pub kept_claim :
    (p : PlanRecord) (w : World) (k seat : ℕ) → Kept p w → k < length p.entries → phase_of w k ≡ Idle → Kept p (with_phase w k (Claimed seat))
kept_claim p w k seat kept there idle = kept_phase p w k (Claimed seat) kept there (sym (ap is_ready idle))

pub kept_abandon :
    (p : PlanRecord) (w : World) (k seat : ℕ) → Kept p w → k < length p.entries → phase_of w k ≡ Claimed seat → Kept p (with_phase w k Lost)
kept_abandon p w k seat kept there claimed = kept_phase p w k Lost kept there (sym (ap is_ready claimed))

-- ---- finish

pub kept_finish :
    (p : PlanRecord) (w : World) (k seat : ℕ) → IsPlan p → Kept p w → k < length p.entries → phase_of w k ≡ Claimed seat
    → Kept p (with_tile (with_phase w k (Ready seat)) k Held)
kept_finish p w k seat plan kept there claimed = record {
  phases_many = length-set w.phases k (Ready seat) ∙ kept.phases_many;
  reads_many = kept.reads_many;
  tiles_many = length-set w.tiles k Held ∙ kept.tiles_many;
  ready = λ e began. get_or-set (λ (s : Phase). is_ready s
      ≡ true) w.phases k (source_at p e) (Ready seat) Idle phase_there (λ here. refl) (λ differ. kept.ready e began);
  one_turn = kept.one_turn;
  fits = λ j. elim (cases_eq j k) [
    | inl same ↦
        subst (λ (s : Phase). Fits (is_ready s) (left p w j) (get_or (set w.tiles k Held) j Absent)) (sym (put w.phases (Ready seat) Idle j same phase_there))
        (subst (λ (t : TileState). Fits true (left p w j) t) (sym (put w.tiles Held Absent j same tile_there))
        (subst (λ (i : ℕ). 0 < left p w i) (sym same) (left-some p w plan kept k there (ap is_ready claimed))))
    | inr differ ↦
        subst (λ (s : Phase). Fits (is_ready s) (left p w j) (get_or (set w.tiles k Held) j Absent)) (sym (get_or-set_other w.phases k j
        (Ready seat) Idle differ))
        (subst (λ (t : TileState). Fits (is_ready (phase_of w j)) (left p w j) t) (sym (get_or-set_other w.tiles k j Held Absent differ)) (kept.fits j))
  ];
  counted = kept.counted;
}
  where
    phase_there : k < length w.phases
    phase_there = omega (arith, kept.phases_many)

    tile_there : k < length w.tiles
    tile_there = omega (arith, kept.tiles_many)

    put : {A : Type 0} (l : List A) (a d : A) (j : ℕ) → j ≡ k → k < length l → get_or (set l k a) j d ≡ a
    put l a d j same lt = ap (λ i. get_or (set l k a) i d) same ∙ get_or-set_same l k a d lt

-- ---- retire

-- a read of an alias is served: one less is open
pub left-less :
    (p : PlanRecord) (w : World) (e k : ℕ) → length w.reads ≡ reads_in p → e < reads_in p → is_open (read_of w e) ≡ true
    → left p (with_read w e Served) k + one_if (source_at p e == k) ≡ left p w k
left-less p w e k many there opened =
    let step = reads_where-set is_open p w e Served k many there in
    let before : one_if ((source_at p e == k) && is_open (read_of w e)) ≡ one_if (source_at p e == k) =
    ap (λ b. one_if ((source_at p e == k) && b)) opened ∙ both (source_at p e == k) in
    let now : one_if ((source_at p e == k) && false) ≡ 0 = ap one_if (and_right (source_at p e == k) false refl) in
    omega (arith, step, before, now)
  where
    both : (b : Bool) → one_if (b && true) ≡ one_if b
    both true = refl
    both false = refl

-- the other fields, for any tiles that fit
kept_served :
    (p : PlanRecord) (w : World) (e seat : ℕ) (tiles : List TileState) → Kept p w → e < reads_in p → MayServe p w seat e
    → length tiles ≡ length p.entries
    → ((k : ℕ) → Fits (is_ready (phase_of w k)) (left p (with_read w e Served) k) (get_or tiles k Absent))
    → Kept p (record { phases = w.phases; reads = set w.reads e Served; tiles = tiles })
kept_served p w e seat tiles kept there may many fits = record {
  phases_many = kept.phases_many;
  reads_many = length-set w.reads e Served ∙ kept.reads_many;
  tiles_many = many;
  ready = λ i. get_or-set (λ (r : ReadState). is_waiting r ≡ false → is_ready (phase_of w (source_at p i)) ≡ true) w.reads e i Served Waiting
      (omega (arith, kept.reads_many)) (λ at began. subst (λ (j : ℕ). is_ready (phase_of w (source_at p j)) ≡ true) (sym at) may.2) (λ differ. kept.ready i);
  one_turn = λ k. let same = reads_where-same is_in_turn p w e Served k kept.reads_many there (sym (ap is_in_turn may.1)) in omega
      (arith, same, kept.one_turn k);
  fits = fits;
  counted = λ k. left-served p (with_read w e Served) k;
}

-- while reads of an alias are open its tile stays; it leaves with the last
pub kept_retire_more :
    (p : PlanRecord) (w : World) (e seat : ℕ) → Kept p w → e < reads_in p → MayServe p w seat e
    → 0 < left p (with_read w e Served) (source_at p e) → Kept p (with_read w e Served)
kept_retire_more p w e seat kept there may some =
    kept_served p w e seat w.tiles kept there may kept.tiles_many (λ k.
    let less = left-less p w e k kept.reads_many there (ap is_open may.1) in
    elim (cases_eq (source_at p e) k) [
      | inl same ↦ fits_more (is_ready (phase_of w k)) _ _ (tile_of w k)
          (ap (λ j. is_ready (phase_of w j)) (sym same)
          ∙ may.2) (subst (λ (j : ℕ). 0 < left p (with_read w e Served) j) same some) (omega (arith, less)) (kept.fits k)
      | inr differ ↦ subst (λ (n : ℕ). Fits (is_ready (phase_of w k)) n (tile_of w k)) (omega (arith, less, one_if-differ (source_at p e) k differ))
          (kept.fits k)
    ])
  where
    fits_more : (b : Bool) (n m : ℕ) (t : TileState) → b ≡ true → 0 < n → n ≤ m → Fits b m t → Fits b n t
    fits_more true n m Held ready some fewer fits = some
    fits_more true n m (Leaving by) ready some fewer fits = omega (arith, fits)
    fits_more true n m Absent ready some fewer fits = omega (arith, fits)
    fits_more false n m t ready some fewer fits = cc

pub kept_retire_last :
    (p : PlanRecord) (w : World) (e seat : ℕ) → Kept p w → e < reads_in p → source_at p e < length p.entries → MayServe p w seat e
    → left p (with_read w e Served) (source_at p e) ≡ 0 → Kept p (with_tile (with_read w e Served) (source_at p e) (Leaving seat))
kept_retire_last p w e seat kept there source_there may none =
    kept_served p w e seat (set w.tiles (source_at p e) (Leaving seat)) kept there may (length-set w.tiles (source_at p e) (Leaving seat)
    ∙ kept.tiles_many) (λ k.
    let less = left-less p w e k kept.reads_many there (ap is_open may.1) in
    get_or-set (λ (t : TileState). Fits (is_ready (phase_of w k)) (left p (with_read w e Served) k) t) w.tiles (source_at p e) k (Leaving seat) Absent
    (omega (arith, kept.tiles_many))
    (λ same. subst (λ (b : Bool). Fits b (left p (with_read w e Served) k) (Leaving seat))
    (sym (ap (λ j. is_ready (phase_of w j)) same ∙ may.2)) (ap (left p (with_read w e Served)) same ∙ none))
    (λ differ. subst (λ (n : ℕ). Fits (is_ready (phase_of w k)) n (tile_of w k)) (omega (
      arith,
      less,
      one_if-differ (source_at p e) k (λ same. differ
          (sym same)),
    )) (kept.fits k)))

-- ---- clear

pub kept_clear :
    (p : PlanRecord) (w : World) (k seat : ℕ) → Kept p w → k < length p.entries → tile_of w k ≡ Leaving seat → Kept p (with_tile w k Absent)
kept_clear p w k seat kept there leaves = record {
  phases_many = kept.phases_many;
  reads_many = kept.reads_many;
  tiles_many = length-set w.tiles k Absent ∙ kept.tiles_many;
  ready = kept.ready;
  one_turn = kept.one_turn;
  fits = λ j. get_or-set (λ (t : TileState). Fits (is_ready (phase_of w j)) (left p w j) t) w.tiles k j Absent Absent (omega (arith, kept.tiles_many))
      (λ same. gone (is_ready (phase_of w j)) (left p w j) (subst (λ (t : TileState). Fits (is_ready (phase_of w j)) (left p w j) t)
      (ap (tile_of w) same ∙ leaves) (kept.fits j)))
      (λ differ. kept.fits j);
  counted = kept.counted;
}
  where
    gone : (b : Bool) (n : ℕ) → Fits b n (Leaving seat) → Fits b n Absent
    gone true n fits = fits
    gone false n fits = absurd fits

-- ---- what is told beside a state

pub keeps_start :
    (p : PlanRecord) (lefts : List ℕ) → IsPlan p → IsCounted p lefts → IsKept p (start p) lefts (replicate (length p.entries) false)
keeps_start p lefts plan counted = record {
  plan = plan;
  kept = kept_start p;
  left_many = counted.many;
  count = λ k there.
      let none = served-none p (start p) (kept_start p) k (ap is_ready (get_or-all (length p.entries) k Idle)) in
      omega (arith, counted.count k there, left-served p (start p) k, none);
  turning_many = length-replicate (length p.entries) false;
  turning = λ k there.
      let few = (kept_start p).one_turn k in
      let none = how_many-none (reads_in p) (λ e. (source_at p e == k) && is_in_turn (read_of (start p) e))
      (λ e less. and_right (source_at p e == k) (is_in_turn (read_of (start p) e)) (ap is_in_turn (get_or-all (reads_in p) e Waiting))) in
      ap one_if (get_or-all (length p.entries) k false) ∙ sym none;
}

pub keeps_finish :
    (p : PlanRecord) (w : World) (lefts : List ℕ) (flags : List Bool) (k seat : ℕ) → IsKept p w lefts flags → k < length p.entries
    → phase_of w k ≡ Claimed seat → IsKept p (with_tile (with_phase w k (Ready seat)) k Held) lefts flags
keeps_finish p w lefts flags k seat h there claimed = record {
  plan = h.plan;
  kept = kept_finish p w k seat h.plan h.kept there claimed;
  left_many = h.left_many;
  count = h.count;
  turning_many = h.turning_many;
  turning = h.turning;
}

pub keeps_turn_in :
    (p : PlanRecord) (w : World) (lefts : List ℕ) (flags : List Bool) (e seat src : ℕ) → IsKept p w lefts flags → e < reads_in p
    → src ≡ source_at p e → src < length p.entries → MayServe p w seat e → turns p w (source_at p e) ≡ 0
    → IsKept p (with_read w e (InTurn seat)) lefts (set flags src true)
keeps_turn_in p w lefts flags e seat src h there is src_there may none = record {
  plan = h.plan;
  kept = kept_turn p w e seat h.kept there may none;
  left_many = h.left_many;
  count = λ k k_there. h.count k k_there ∙ sym (reads_where-same is_open p w e (InTurn seat) k h.kept.reads_many there (sym (ap is_open may.1)));
  turning_many = length-set flags src true ∙ h.turning_many;
  turning = λ k k_there.
      let more = turns-more p w e seat k h.kept.reads_many there may.1 in
      let src_flag : src < length flags = omega (arith, h.turning_many) in
      elim (cases_eq k src) [
        | inl same ↦
            let put = ap (λ j. one_if (get_or (set flags src true) j false)) same ∙ ap one_if (get_or-set_same flags src true false src_flag) in
            let here = ap one_if (eq-eqb (source_at p e) k (sym (same ∙ is))) in
            let at : k ≡ source_at p e = same ∙ is in
            let before = ap (turns p w) at in
            omega (arith, put, here, more, before, none)
        | inr differ ↦
            let put = ap one_if (get_or-set_other flags src k true false differ) in
            omega (arith, put, h.turning k k_there, more, one_if-differ (source_at p e) k (λ same. differ (sym same ∙ sym is)))
      ];
}

pub keeps_give_in :
    (p : PlanRecord) (w : World) (lefts : List ℕ) (flags : List Bool) (e seat src : ℕ) → IsKept p w lefts flags → e < reads_in p
    → src ≡ source_at p e → src < length p.entries → read_of w e ≡ InTurn seat
    → IsKept p (with_read w e Waiting) lefts (set flags src false)
keeps_give_in p w lefts flags e seat src h there is src_there in_turn = record {
  plan = h.plan;
  kept = kept_give p w e seat h.kept there in_turn;
  left_many = h.left_many;
  count = λ k k_there. h.count k k_there ∙ sym (reads_where-same is_open p w e Waiting k h.kept.reads_many there (sym (ap is_open in_turn)));
  turning_many = length-set flags src false ∙ h.turning_many;
  turning = λ k k_there.
      let less = turns-less p w e seat k h.kept.reads_many there in_turn in
      let src_flag : src < length flags = omega (arith, h.turning_many) in
      elim (cases_eq k src) [
        | inl same ↦
            let put = ap (λ j. one_if (get_or (set flags src false) j false)) same ∙ ap one_if (get_or-set_same flags src false false src_flag) in
            let here = ap one_if (eq-eqb (source_at p e) k (sym (same ∙ is))) in
            omega (arith, put, here, less, h.kept.one_turn k)
        | inr differ ↦
            let put = ap one_if (get_or-set_other flags src k false false differ) in
            omega (arith, put, h.turning k k_there, less, one_if-differ (source_at p e) k (λ same. differ (sym same ∙ sym is)))
      ];
}

-- the counts after a read of an alias is served
counts_less :
    (p : PlanRecord) (w : World) (lefts : List ℕ) (flags : List Bool) (e src : ℕ) → IsKept p w lefts flags → e < reads_in p
    → src ≡ source_at p e → src < length p.entries → read_of w e ≡ Waiting
    → (k : ℕ) → k < length p.entries → get_or (set lefts src (get_or lefts src 0 - 1)) k 0 ≡ left p (with_read w e Served) k
counts_less p w lefts flags e src h there is src_there waits k k_there =
    let less = left-less p w e k h.kept.reads_many there (ap is_open waits) in
    elim (cases_eq k src) [
      | inl same ↦
          let put = ap (λ j. get_or (set lefts src (get_or lefts src 0 - 1)) j 0) same
          ∙ get_or-set_same lefts src (get_or lefts src 0 - 1) 0 (omega (arith, h.left_many)) in
          let here = ap one_if (eq-eqb (source_at p e) k (sym (same ∙ is))) in
          let count = h.count src src_there in
          let at = ap (left p w) same in
          omega (arith, put, here, less, count, at)
      | inr differ ↦
          let put = get_or-set_other lefts src k (get_or lefts src 0 - 1) 0 differ in
          omega (arith, put, h.count k k_there, less, one_if-differ (source_at p e) k (λ same. differ (sym same ∙ sym is)))
    ]

-- the read that is about to be served is counted
pub count_some :
    (p : PlanRecord) (w : World) (lefts : List ℕ) (flags : List Bool) (e src : ℕ) → IsKept p w lefts flags → e < reads_in p
    → src ≡ source_at p e → src < length p.entries → read_of w e ≡ Waiting → 0 < get_or lefts src 0
count_some p w lefts flags e src h there is src_there waits =
    let less = left-less p w e src h.kept.reads_many there (ap is_open waits) in
    let here = ap one_if (eq-eqb (source_at p e) src (sym is)) in
    omega (arith, less, here, h.count src src_there)

-- and what is left after it
pub count_after :
    (p : PlanRecord) (w : World) (lefts : List ℕ) (flags : List Bool) (e src : ℕ) → IsKept p w lefts flags → e < reads_in p
    → src ≡ source_at p e → src < length p.entries → read_of w e ≡ Waiting
    → get_or (set lefts src (get_or lefts src 0 - 1)) src 0 ≡ left p (with_read w e Served) (source_at p e)
count_after p w lefts flags e src h there is src_there waits =
    counts_less p w lefts flags e src h there is src_there waits src src_there ∙ ap (left p (with_read w e Served)) is

pub keeps_retire_more_in :
    (p : PlanRecord) (w : World) (lefts : List ℕ) (flags : List Bool) (e seat src : ℕ) → IsKept p w lefts flags → e < reads_in p
    → src ≡ source_at p e → src < length p.entries → MayServe p w seat e
    → 0 < get_or (set lefts src (get_or lefts src 0 - 1)) src 0
    → IsKept p (with_read w e Served) (set lefts src (get_or lefts src 0 - 1)) flags
keeps_retire_more_in p w lefts flags e seat src h there is src_there may some = record {
  plan = h.plan;
  kept = kept_retire_more p w e seat h.kept there may (omega (arith, count_after p w lefts flags e src h there is src_there may.1));
  left_many = length-set lefts src (get_or lefts src 0 - 1) ∙ h.left_many;
  count = counts_less p w lefts flags e src h there is src_there may.1;
  turning_many = h.turning_many;
  turning = λ k k_there. h.turning k k_there
      ∙ sym (reads_where-same is_in_turn p w e Served k h.kept.reads_many there (sym (ap is_in_turn may.1)));
}

pub keeps_retire_last_in :
    (p : PlanRecord) (w : World) (lefts : List ℕ) (flags : List Bool) (e seat src : ℕ) → IsKept p w lefts flags → e < reads_in p
    → src ≡ source_at p e → src < length p.entries → MayServe p w seat e
    → get_or (set lefts src (get_or lefts src 0 - 1)) src 0 ≡ 0
    → IsKept p (with_tile (with_read w e Served) src (Leaving seat)) (set lefts src (get_or lefts src 0 - 1)) flags
keeps_retire_last_in p w lefts flags e seat src h there is src_there may none =
    let source_there : source_at p e < length p.entries = omega (arith, is) in
    let after = count_after p w lefts flags e src h there is src_there may.1 in
    let leaves = kept_retire_last p w e seat h.kept there source_there may (omega (arith, after)) in
    record {
      plan = h.plan;
      kept = subst (λ (j : ℕ). Kept p (with_tile (with_read w e Served) j (Leaving seat))) (sym is) leaves;
      left_many = length-set lefts src (get_or lefts src 0 - 1) ∙ h.left_many;
      count = counts_less p w lefts flags e src h there is src_there may.1;
      turning_many = h.turning_many;
      turning = λ k k_there. h.turning k k_there
          ∙ sym (reads_where-same is_in_turn p w e Served k h.kept.reads_many there (sym (ap is_in_turn may.1)));
    }

-- ---- from what contracts see to what is kept inside

pub told_inside :
    (Q : PlanRecord → World → Type 0) (q : PlanRecord) (w : World) (old : CoreRecord) (p : PlanRecord) → core_in q w ≡ old → p ≡ old.plan
    → Q p old.world → Q q w
told_inside Q q w old p view same fact =
    subst (λ (o : CoreRecord). Q o.plan o.world) (sym view) (subst (λ (r : PlanRecord). Q r old.world) same fact)

-- a read that a seat may serve, with its source
abbrev pub Serving : ℕ → ℕ → ℕ → PlanRecord → World → Type 0
Serving seat e src p w = (e < reads_in p) × (src ≡ source_at p e) × (src < length p.entries) × MayServe p w seat e

abbrev pub Giving : ℕ → ℕ → ℕ → PlanRecord → World → Type 0
Giving seat e src p w = (e < reads_in p) × (src ≡ source_at p e) × (src < length p.entries) × (read_of w e ≡ InTurn seat)

pub keeps_turn :
    (q : PlanRecord) (w : World) (lefts : List ℕ) (flags : List Bool) (old : CoreRecord) (p : PlanRecord) (seat e src : ℕ)
    → core_in q w ≡ old → p ≡ old.plan → IsKept q w lefts flags → get_or flags src false ≡ false → Serving seat e src p old.world
    → IsKept q (with_read w e (InTurn seat)) lefts (set flags src true)
keeps_turn q w lefts flags old p seat e src view same h free serving =
    let at = told_inside (Serving seat e src) q w old p view same serving in
    let none : turns q w src ≡ 0 = sym (h.turning src at.2) ∙ ap one_if free in
    keeps_turn_in q w lefts flags e seat src h at.0 at.1 at.2 at.3 (ap (turns q w) (sym at.1) ∙ none)

pub keeps_give :
    (q : PlanRecord) (w : World) (lefts : List ℕ) (flags : List Bool) (old : CoreRecord) (p : PlanRecord) (seat e src : ℕ)
    → core_in q w ≡ old → p ≡ old.plan → IsKept q w lefts flags → Giving seat e src p old.world
    → IsKept q (with_read w e Waiting) lefts (set flags src false)
keeps_give q w lefts flags old p seat e src view same h giving =
    let at = told_inside (Giving seat e src) q w old p view same giving in
    keeps_give_in q w lefts flags e seat src h at.0 at.1 at.2 at.3

pub left_some :
    (q : PlanRecord) (w : World) (lefts : List ℕ) (flags : List Bool) (old : CoreRecord) (p : PlanRecord) (seat e src : ℕ)
    → core_in q w ≡ old → p ≡ old.plan → IsKept q w lefts flags → Serving seat e src p old.world
    → (before : ℕ) → before ≡ get_or lefts src before → 0 < before
left_some q w lefts flags old p seat e src view same h serving before is =
    let at = told_inside (Serving seat e src) q w old p view same serving in
    let in_lefts : src < length lefts = omega (arith, at.2, h.left_many) in
    let same = get_or_default lefts src before 0 in_lefts in
    omega (arith, count_some q w lefts flags e src h at.0 at.1 at.2 at.3.1, is, same)

pub keeps_retire_more :
    (q : PlanRecord) (w : World) (lefts : List ℕ) (flags : List Bool) (old : CoreRecord) (p : PlanRecord) (seat e src before after : ℕ)
    → core_in q w ≡ old → p ≡ old.plan → IsKept q w lefts flags → Serving seat e src p old.world
    → before ≡ get_or lefts src before → after ≡ get_or (set lefts src (before - 1)) src after → (after ≡ 0 → ⊥)
    → IsKept q (with_read w e Served) (set lefts src (before - 1)) flags
    × (core_in q (with_read w e Served) ≡ core_in old.plan (left_by old.plan (with_read old.world e Served) seat (source_at old.plan e)))
keeps_retire_more q w lefts flags old p seat e src before after view same h serving is is_after some =
    let at = told_inside (Serving seat e src) q w old p view same serving in
    let in_lefts : src < length lefts = omega (arith, at.2, h.left_many) in
    let in_new : src < length (set lefts src (before - 1)) = omega (arith, in_lefts, length-set lefts src (before - 1)) in
    let less : before - 1 ≡ get_or lefts src 0 - 1 = ap (λ n. n - 1) (is ∙ get_or_default lefts src before 0 in_lefts) in
    let put : after ≡ get_or (set lefts src (get_or lefts src 0 - 1)) src 0 =
    is_after ∙ get_or_default (set lefts src (before - 1)) src after 0 in_new ∙ ap (λ n. get_or (set lefts src n) src 0) less in
    let few : left q (with_read w e Served) (source_at q e) ≡ after = sym (put ∙ count_after q w lefts flags e src h at.0 at.1 at.2 at.3.1) in
    let unequal : (left q (with_read w e Served) (source_at q e) == 0) ≡ false =
    ne_eqb (left q (with_read w e Served) (source_at q e)) 0 (λ none. some (sym few ∙ none)) in (
      subst (λ (n : ℕ). IsKept q (with_read w e Served) (set lefts src n) flags) (sym less)
          (keeps_retire_more_in q w lefts flags e seat src h at.0 at.1 at.2 at.3 (omega (arith, put, some))),
      ap (core_in q) (sym (cond-false _ (with_tile (with_read w e Served) (source_at q e) (Leaving seat)) (with_read w e Served) unequal))
          ∙ ap (λ (o : CoreRecord). core_in o.plan (left_by o.plan (with_read o.world e Served) seat (source_at o.plan e))) view,
    )

pub keeps_retire_last :
    (q : PlanRecord) (w : World) (lefts : List ℕ) (flags : List Bool) (old : CoreRecord) (p : PlanRecord) (seat e src before after : ℕ)
    → core_in q w ≡ old → p ≡ old.plan → IsKept q w lefts flags → Serving seat e src p old.world
    → before ≡ get_or lefts src before → after ≡ get_or (set lefts src (before - 1)) src after → after ≡ 0
    → IsKept q (with_tile (with_read w e Served) src (Leaving seat)) (set lefts src (before - 1)) flags
    × (core_in q (with_tile (with_read w e Served) src (Leaving seat))
    ≡ core_in old.plan (left_by old.plan (with_read old.world e Served) seat (source_at old.plan e)))
keeps_retire_last q w lefts flags old p seat e src before after view same h serving is is_after none =
    let at = told_inside (Serving seat e src) q w old p view same serving in
    let in_lefts : src < length lefts = omega (arith, at.2, h.left_many) in
    let in_new : src < length (set lefts src (before - 1)) = omega (arith, in_lefts, length-set lefts src (before - 1)) in
    let less : before - 1 ≡ get_or lefts src 0 - 1 = ap (λ n. n - 1) (is ∙ get_or_default lefts src before 0 in_lefts) in
    let put : after ≡ get_or (set lefts src (get_or lefts src 0 - 1)) src 0 =
    is_after ∙ get_or_default (set lefts src (before - 1)) src after 0 in_new ∙ ap (λ n. get_or (set lefts src n) src 0) less in
    let few : left q (with_read w e Served) (source_at q e) ≡ after = sym (put ∙ count_after q w lefts flags e src h at.0 at.1 at.2 at.3.1) in
    let equal : (left q (with_read w e Served) (source_at q e) == 0) ≡ true =
    eq-eqb (left q (with_read w e Served) (source_at q e)) 0 (few ∙ none) in (
      subst (λ (n : ℕ). IsKept q (with_tile (with_read w e Served) src (Leaving seat)) (set lefts src n) flags) (sym less)
          (keeps_retire_last_in q w lefts flags e seat src h at.0 at.1 at.2 at.3 (sym put ∙ none)),
      ap (λ j. core_in q (with_tile (with_read w e Served) j (Leaving seat))) at.1
          ∙ ap (core_in q) (sym (cond-true _ (with_tile (with_read w e Served) (source_at q e) (Leaving seat)) (with_read w e Served) equal))
          ∙ ap (λ (o : CoreRecord). core_in o.plan (left_by o.plan (with_read o.world e Served) seat (source_at o.plan e))) view,
    )
