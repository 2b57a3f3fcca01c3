-- What every state of a cache keeps, told by the state shown
use Rattle.std.proofs.Common.{◌≡◌, ◌<◌, ◌≤◌, ◌/◌, ◌&&◌, ◌==◌, ℕ, zero, suc, Bool, true, false, Option, Some, None, List, [], ◌∷◌, length, get_or, refl, sym, ap, ap₂, subst, ◌∙◌, inl, inr, arith, eq-eqb, eq-zero-or-pos}
use Rattle.std.proofs.lemmas.Bool.{and_from, cases_lt}
use Rattle.std.proofs.lemmas.List.{get_or_past}
use mathlib.Core.Option.{some, some-ne-none}
use lib.ListN.{get_elem?}
use Rattle.atomic_table.specs.Table.{State}
use Rattle.xs_pixel.specs.Picture.{Pictures}
use Rattle.xs_raster.specs.declared.tile.Tile.{Tile}
use Rattle.xs_plan.specs.Record.{PlanRecord}
use Rattle.xs_plan.specs.Reads.{reads_in}
use Rattle.xs_core.specs.declared.state.TileState.TheVariants.{Absent, Held, Leaving}
use Rattle.xs_core.specs.States.{phase_of, read_of, tile_of, is_ready, is_in_turn, source_at, turns}
use Rattle.xs_core.specs.Calls.{HoldsTile}
use Rattle.xs_core.proofs.CountLemmas.{how_many-some}
use Rattle.xs_word_desk.specs.declared.view.View.{View}
use Rattle.xs_word_desk.specs.Sums.{total}
use Rattle.xs_word_desk.specs.Words.{Shape, Unclaimed, Taken, GivenUp, Finished, encode, made_in}
use Rattle.xs_word_desk.specs.Seen.{knows, fills, leaves, turns_on, turns as turns_of}
use Rattle.xs_word_desk.specs.Rule.{Slot, at_home, out, Rests, Agrees, Holds}
use Rattle.xs_word_desk.specs.Shown.{winner, turner, leaver, read_shown, tile_shown, tile_at, shown}
use Rattle.xs_word_desk.proofs.WordLemmas.{reads_of_word}
use Rattle.xs_word_desk.proofs.SumLemmas.{term_le}
use Rattle.xs_word_desk.proofs.ReadSteps.{in_turn}
use Rattle.xs_word_desk.proofs.ShownLemmas.{length-below, finished_phase, held_tile, phase_is, read_is, tile_is, none_in_turn}

within_of : {A : Type 0} (l : List A) (k : ℕ) (x : A) → get_elem? l k ≡ some x → k < length l
within_of [] k x at = absurd (some-ne-none x (sym at))
within_of (y ∷ l) zero x at = omega arith
within_of (y ∷ l) (suc k) x at = omega (arith, within_of l k x at)

not_empty : (t : Tile) → at_home (Some t) ≡ at_home None → ⊥
not_empty t is = cc

not_out : (t : Tile) → at_home (Some t) ≡ out → ⊥
not_out t is = cc

not_absent : Absent ≡ Held → ⊥
not_absent is = cc

not_leaving : (seat : ℕ) → Leaving seat ≡ Held → ⊥
not_leaving seat is = cc

-- what a word that is told shows of the tile
tile_said :
    (s : State Slot View) (k word leaving : ℕ) → get_or s.words k 0 ≡ word → total (leaves k) s.views ≡ leaving
    → tile_at s.words s.views k ≡ tile_shown leaving (leaver s.views k) (word / 16)
tile_said s k word leaving says by = ap₂ (λ a b. tile_shown b (leaver s.views k) (a / 16)) says by

module _ (told : Option Pictures) (p : PlanRecord) where
  -- ---- a slot at home with a tile

  record IsHeld (s : State Slot View) (k : ℕ) (t : Tile) : Type 0 where
    tile : tile_at s.words s.views k ≡ Held
    turns : total (turns_on p k) s.views ≡ 0
    value : HoldsTile told p k t

  rests_held :
      (s : State Slot View) (k : ℕ) (t : Tile) (turn cleared : Bool) (reads : ℕ)
      → get_elem? s.homes k ≡ at_home (Some t) → Rests told p k (get_elem? s.homes k) turn cleared reads
      → Agrees told p k (get_or s.words k 0) (get_elem? s.homes k) s.views (Finished turn cleared reads)
      → IsHeld s k t
  rests_held s k t true cleared reads home rests was = let away = rests.0 in absurd (not_out t (sym home ∙ away))
  rests_held s k t false true reads home rests was = let empty = rests.0 in absurd (not_empty t (sym home ∙ empty))
  rests_held s k t false false zero home rests was = absurd (not_out t (sym home ∙ rests))
  rests_held s k t false false (suc reads) home rests was = record {
    tile = tile_said s k (encode (Finished false false (suc reads))) 0 was.says was.leaving
        ∙ held_tile (leaver s.views k) (encode (Finished false false (suc reads)) / 16)
        (omega (arith, reads_of_word false false (suc reads)));
    turns = was.turn;
    value = subst (HoldsTile told p k) (same_tile rests.0 t (sym rests.1 ∙ home)) rests.2;
  }
    where
      same_tile : (t u : Tile) → at_home (Some t) ≡ at_home (Some u) → t ≡ u
      same_tile t u is = cc

  shape_held :
      (s : State Slot View) (k : ℕ) (t : Tile) (shape : Shape) → get_elem? s.homes k ≡ at_home (Some t)
      → Agrees told p k (get_or s.words k 0) (get_elem? s.homes k) s.views shape → IsHeld s k t
  shape_held s k t Unclaimed home was = absurd (not_empty t (sym home ∙ was.lies.1))
  shape_held s k t GivenUp home was = absurd (not_empty t (sym home ∙ was.lies.1))
  shape_held s k t Taken home was = elim (eq-zero-or-pos (total (fills k) s.views)) [
    | inl free ↦ absurd (not_empty t (sym home ∙ was.lies.1 free))
    | inr filled ↦ absurd (not_out t (sym home ∙ was.lies.2 (omega (arith, filled, was.lies.0))))
  ]
  shape_held s k t (Finished turn cleared reads) home was = rests_held s k t turn cleared reads home was.lies.1 was

  pub tile_held :
      (s : State Slot View) (k : ℕ) (t : Tile) → Holds told p s → get_elem? s.homes k ≡ at_home (Some t)
      → (tile_of (shown p s) k ≡ Held) × (turns p (shown p s) k ≡ 0) × HoldsTile told p k t
  tile_held s k t holds home =
      let there : k < length p.entries = omega (arith, within_of s.homes k (some (Some t)) home, holds.deep) in
      let part = holds.parts k there in
      let held = shape_held s k t part.shape home part.agrees in
      (tile_is p s k there ∙ held.tile, none_in_turn p s k held.turns, held.value)

  -- ---- a tile that is held

  -- a read of the alias that a seat has in turn is shown so
  some_in_turn :
      (s : State Slot View) (k : ℕ) → Holds told p s → 0 < total (turns_on p k) s.views → 0 < turns p (shown p s) k
  some_in_turn s k holds there_is =
      let f = in_turn told p s k holds there_is in
      how_many-some (reads_in p) f.0 (λ e. (source_at p e == k) && is_in_turn (read_of (shown p s) e)) f.1
      (and_from (source_at p f.0 == k) (is_in_turn (read_of (shown p s) f.0)) (eq-eqb (source_at p f.0) k f.2)
      (ap is_in_turn (read_is p s f.0 f.1 ∙ ap (λ n. read_shown n (total (turns_of f.0) s.views) (turner s.views f.0)) f.3)
      ∙ by_turn (total (turns_of f.0) s.views) (turner s.views f.0) f.4))
    where
      by_turn : (n seat : ℕ) → 0 < n → is_in_turn (read_shown 0 n seat) ≡ true
      by_turn zero seat some_there = absurd (omega arith)
      by_turn (suc n) seat some_there = refl

  rests_there :
      (s : State Slot View) (k : ℕ) (turn cleared : Bool) (reads : ℕ) → tile_at s.words s.views k ≡ Held
      → total (turns_on p k) s.views ≡ 0
      → Agrees told p k (get_or s.words k 0) (get_elem? s.homes k) s.views (Finished turn cleared reads)
      → (t : Tile) × (get_elem? s.homes k ≡ at_home (Some t))
  rests_there s k true cleared reads held idle was = absurd (omega (arith, was.turn, idle))
  rests_there s k false true reads held idle was =
      let gone : reads ≡ 0 = was.lies.1.1 in
      let count : encode (Finished false true reads) / 16 ≡ 0 = reads_of_word false true reads ∙ gone in
      let absent = tile_said s k (encode (Finished false true reads)) 0 was.says was.leaving
      ∙ ap (tile_shown 0 (leaver s.views k)) count in
      absurd (not_absent (sym absent ∙ held))
  rests_there s k false false zero held idle was =
      absurd (not_leaving (leaver s.views k) (sym (tile_said s k (encode (Finished false false 0)) 1 was.says was.leaving) ∙ held))
  rests_there s k false false (suc reads) held idle was = (was.lies.1.0, was.lies.1.1)

  shape_there :
      (s : State Slot View) (k : ℕ) (shape : Shape) → tile_at s.words s.views k ≡ Held
      → total (turns_on p k) s.views ≡ 0
      → Agrees told p k (get_or s.words k 0) (get_elem? s.homes k) s.views shape
      → (t : Tile) × (get_elem? s.homes k ≡ at_home (Some t))
  shape_there s k Unclaimed held idle was = absurd (not_absent (sym (tile_said s k 0 0 was.says was.leaving) ∙ held))
  shape_there s k Taken held idle was = absurd (not_absent (sym (tile_said s k 1 0 was.says was.leaving) ∙ held))
  shape_there s k GivenUp held idle was = absurd (not_absent (sym (tile_said s k 2 0 was.says was.leaving) ∙ held))
  shape_there s k (Finished turn cleared reads) held idle was = rests_there s k turn cleared reads held idle was

  pub held_there :
      (s : State Slot View) (k : ℕ) → Holds told p s → tile_of (shown p s) k ≡ Held → turns p (shown p s) k ≡ 0
      → (t : Tile) × (get_elem? s.homes k ≡ at_home (Some t))
  held_there s k holds held idle = elim (cases_lt k (length p.entries)) [
    | inl there ↦
        let part = holds.parts k there in
        let none_turned : total (turns_on p k) s.views ≡ 0 = elim (eq-zero-or-pos (total (turns_on p k) s.views)) [
          | inl is ↦ is
          | inr some_turned ↦ absurd (omega (arith, idle, some_in_turn s k holds some_turned))
        ] in
        shape_there s k part.shape (sym (tile_is p s k there) ∙ held) none_turned part.agrees
    | inr past ↦
        let absent = get_or_past (shown p s).tiles k Absent
        (omega (arith, past, length-below (length p.entries) (tile_at s.words s.views))) in
        absurd (not_absent (sym absent ∙ held))
  ]

  -- ---- what a seat knows

  pub known_ready :
      (s : State Slot View) (id k : ℕ) (v : View) → Holds told p s → get_elem? s.views id ≡ some v → 0 < knows k v
      → is_ready (phase_of (shown p s) k) ≡ true
  known_ready s id k v holds me known =
      let there = (holds.views id v me).within k (omega (arith, known)) in
      let part = holds.parts k there in
      let made = part.agrees.known (omega (arith, known, term_le (knows k) s.views id v me)) in
      ap is_ready (phase_is p s k there
      ∙ finished_phase (get_or s.words k 0) (winner s.views k) (more part.shape made part.agrees.says))
    where
      more : (shape : Shape) → made_in shape ≡ 1 → get_or s.words k 0 ≡ encode shape → 3 ≤ get_or s.words k 0
      more Unclaimed made is = absurd (omega arith)
      more Taken made is = absurd (omega arith)
      more GivenUp made is = absurd (omega arith)
      more (Finished turn cleared reads) made is = omega (arith, is)
