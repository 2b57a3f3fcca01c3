-- The seats that the state shown names are those whose views say so
use Rattle.std.proofs.Common.{◌≡◌, ◌<◌, ◌≤◌, ◌+◌, ◌/◌, ◌==◌, ℕ, zero, suc, Option, Some, None, length, get_or, refl, sym, ap, ap₂, subst, ◌∙◌, inl, inr, arith, eq-zero-or-pos}
use Rattle.std.proofs.lemmas.Bool.{cases_lt}
use Rattle.std.proofs.lemmas.List.{get_or_past}
use mathlib.Core.Option.{some}
use lib.ListN.{get_elem?}
use Rattle.atomic_table.specs.Table.{State}
use Rattle.xs_pixel.specs.Picture.{Pictures}
use Rattle.xs_plan.specs.Record.{PlanRecord}
use Rattle.xs_plan.specs.Reads.{reads_in}
use Rattle.xs_core.specs.declared.state.Phase.TheVariants.{Idle, Claimed}
use Rattle.xs_core.specs.declared.state.ReadState.TheVariants.{Waiting, InTurn, Served}
use Rattle.xs_core.specs.declared.state.TileState.TheVariants.{Absent, Leaving}
use Rattle.xs_core.specs.States.{phase_of, read_of, tile_of, seat_in}
use Rattle.xs_core.specs.Views.{under}
use Rattle.xs_word_desk.specs.declared.view.View.{View}
use Rattle.xs_word_desk.specs.Sums.{total}
use Rattle.xs_word_desk.specs.Words.{Shape, Unclaimed, Taken, GivenUp, Finished, encode, won_in}
use Rattle.xs_word_desk.specs.Seen.{wins, makes, loses, fills, leaves, serves, turns, is_this}
use Rattle.xs_word_desk.specs.Rule.{Slot, Holds}
use Rattle.xs_word_desk.specs.Own.{Own}
use Rattle.xs_word_desk.specs.Shown.{number_sum, winner, turner, leaver, phase_shown, read_shown, tile_shown, phase_at, read_at, tile_at, shown}
use Rattle.xs_word_desk.proofs.SumLemmas.{total-some, total-single, term_le, terms_le}
use Rattle.xs_word_desk.proofs.ViewLemmas.{one_at, some_at, one_if-most}
use Rattle.xs_word_desk.proofs.ClaimSteps.{won_in-most, is_taken, is_filled}
use Rattle.xs_word_desk.proofs.ShownLemmas.{length-below, numbers_none, numbers_one, under_some, phase_is, read_is, tile_is}
use Rattle.xs_word_desk.proofs.StepLaws.{own_winner, turn_mine, leaving_mine}

-- what is there is the number that counts
this_is : (n : ℕ) (there : Option ℕ) → 0 < is_this n there → there ≡ Some n
this_is n None some_there = absurd (omega arith)
this_is n (Some m) some_there = ap Some (some_at m n some_there)

same_some : (a b : ℕ) → Some a ≡ Some b → a ≡ b
same_some a b same = cc

one_seat : (a b : ℕ) → InTurn a ≡ InTurn b → a ≡ b
one_seat a b same = cc

-- a read that is shown in turn is served by nobody, and in turn with somebody
shown_in_turn :
    (served in_turn seat n : ℕ) → read_shown served in_turn seat ≡ InTurn n → (0 < in_turn) × (seat ≡ n)
shown_in_turn zero zero seat n is = cc
shown_in_turn zero (suc m) seat n is = (omega arith, one_seat seat n is)
shown_in_turn (suc m) in_turn seat n is = cc

shown_served : (served in_turn seat : ℕ) → read_shown served in_turn seat ≡ Served → 0 < served
shown_served zero zero seat is = cc
shown_served zero (suc m) seat is = cc
shown_served (suc m) in_turn seat is = omega arith

served_shown : (served in_turn seat : ℕ) → 0 < served → read_shown served in_turn seat ≡ Served
served_shown zero in_turn seat some_served = absurd (omega arith)
served_shown (suc m) in_turn seat some_served = refl

same_leaving : (a b : ℕ) → Leaving a ≡ Leaving b → a ≡ b
same_leaving a b same = cc

shown_leaving :
    (leaving seat open_ones n : ℕ) → tile_shown leaving seat open_ones ≡ Leaving n → (0 < leaving) × (seat ≡ n)
shown_leaving (suc m) seat open_ones n is = (omega arith, same_leaving seat n is)
shown_leaving zero seat (suc m) n is = cc
shown_leaving zero seat zero n is = cc

module _ (told : Option Pictures) (p : PlanRecord) (s : State Slot View) (holds : Holds told p s) where
  -- ---- reads

  pub turn_shown :
      (id e : ℕ) (v : View) → get_elem? s.views id ≡ some v → v.turn ≡ Some e → read_of (shown p s) e ≡ InTurn v.number
  turn_shown id e v me has =
      let mine = turn_mine told p s id e v holds me has in
      let one : 0 < turns e v = omega (arith, ap (is_this e) has, some_one e) in
      read_is p s e ((holds.views id v me).reads_within e (omega (arith, one)))
      ∙ ap (λ n. read_shown n (total (turns e) s.views) (turner s.views e)) mine.0
      ∙ ap₂ (λ n m. read_shown 0 n m) mine.1 mine.2
    where
      some_one : (e : ℕ) → is_this e (Some e) ≡ 1
      some_one e = one_at e e refl

  -- a read past the plan's waits
  within_reads : (e : ℕ) → (read_of (shown p s) e ≡ Waiting → ⊥) → e < reads_in p
  within_reads e began = elim (cases_lt e (reads_in p)) [
    | inl less ↦ less
    | inr past ↦
        absurd (began (get_or_past (shown p s).reads e Waiting (omega (arith, past, length-below (reads_in p) (read_at s.views)))))
  ]

  pub turner_shown :
      (e n : ℕ) → read_of (shown p s) e ≡ InTurn n
      → (id : ℕ) × (v : View) × (get_elem? s.views id ≡ some v) × (v.turn ≡ Some e) × (v.number ≡ n)
  turner_shown e n is =
      let within = within_reads e (λ waits. not_both (sym waits ∙ is)) in
      let told_so = shown_in_turn (total (serves e) s.views) (total (turns e) s.views) (turner s.views e) n
      (sym (read_is p s e within) ∙ is) in
      let found = total-some (turns e) s.views told_so.0 in
      let has = this_is e found.1.turn found.3 in
      (found.0, found.1, found.2, has, sym (turn_mine told p s found.0 e found.1 holds found.2 has).2 ∙ told_so.1)
    where
      not_both : Waiting ≡ InTurn n → ⊥
      not_both both = cc

  pub served_by : (id e : ℕ) (v : View) → get_elem? s.views id ≡ some v → 0 < serves e v → read_of (shown p s) e ≡ Served
  served_by id e v me some_served =
      read_is p s e ((holds.views id v me).reads_within e (omega (arith, some_served)))
      ∙ served_shown (total (serves e) s.views) (total (turns e) s.views) (turner s.views e)
      (omega (arith, some_served, term_le (serves e) s.views id v me))

  pub server_shown :
      (e : ℕ) → read_of (shown p s) e ≡ Served → (id : ℕ) × (v : View) × (get_elem? s.views id ≡ some v) × (0 < serves e v)
  server_shown e is =
      let within = within_reads e (λ waits. not_both (sym waits ∙ is)) in
      total-some (serves e) s.views
      (shown_served (total (serves e) s.views) (total (turns e) s.views) (turner s.views e) (sym (read_is p s e within) ∙ is))
    where
      not_both : Waiting ≡ Served → ⊥
      not_both both = cc

  -- ---- tiles

  pub leaving_shown :
      (id k : ℕ) (v : View) → get_elem? s.views id ≡ some v → k < length p.entries → v.leaving ≡ Some k
      → tile_of (shown p s) k ≡ Leaving v.number
  leaving_shown id k v me there has =
      let mine = leaving_mine told p s id k v holds me there has in
      tile_is p s k there ∙ ap₂ (λ a b. tile_shown a b (get_or s.words k 0 / 16)) mine.0 mine.1

  pub leaver_shown :
      (k n : ℕ) → tile_of (shown p s) k ≡ Leaving n
      → (id : ℕ) × (v : View) × (get_elem? s.views id ≡ some v) × (v.leaving ≡ Some k) × (v.number ≡ n)
  leaver_shown k n is = elim (cases_lt k (length p.entries)) [
    | inl there ↦
        let told_so = shown_leaving (total (leaves k) s.views) (leaver s.views k) (get_or s.words k 0 / 16) n
        (sym (tile_is p s k there) ∙ is) in
        let found = total-some (leaves k) s.views told_so.0 in
        let has = this_is k found.1.leaving found.3 in
        (found.0, found.1, found.2, has, sym (leaving_mine told p s found.0 k found.1 holds found.2 there has).1 ∙ told_so.1)
    | inr past ↦
        absurd (not_both (sym (get_or_past (shown p s).tiles k Absent
        (omega (arith, past, length-below (length p.entries) (tile_at s.words s.views)))) ∙ is))
  ]
    where
      not_both : Absent ≡ Leaving n → ⊥
      not_both both = cc

  -- ---- phases

  pub claim_shown :
      (id k : ℕ) (v : View) → get_elem? s.views id ≡ some v → Own p v → makes k v + loses k v < wins k v
      → phase_of (shown p s) k ≡ Claimed v.number
  claim_shown id k v me own has =
      let there = (holds.views id v me).within k (omega (arith, has)) in
      let part = holds.parts k there in
      let taken : part.shape ≡ Taken = elim (eq-zero-or-pos (fills k v)) [
        | inl free ↦ (is_taken told p s id k v part.shape holds me (omega (arith, has, free)) part.agrees).0
        | inr filled ↦
            let one : fills k v ≡ 1 = omega (arith, filled, this_most k v.filling) in
            (is_filled told p s id k v part.shape holds me one part.agrees).0
      ] in
      phase_is p s k there
      ∙ ap₂ phase_shown (part.agrees.says ∙ ap encode taken) (own_winner told p s id k v holds me (own.claims_own k has))
    where
      this_most : (n : ℕ) (there : Option ℕ) → is_this n there ≤ 1
      this_most n None = omega arith
      this_most n (Some m) = one_if-most (m == n)

  -- the seat of a phase won the alias
  winner_at :
      (k n : ℕ) → k < length p.entries → 0 < total (wins k) s.views → winner s.views k ≡ n
      → (id : ℕ) × (v : View) × (get_elem? s.views id ≡ some v) × (0 < under n k v.won)
  winner_at k n there some_won seat =
      let part = holds.parts k there in
      let most = won_in-most told p part.shape in
      let found = total-some (wins k) s.views some_won in
      let id : ℕ = found.0 in
      let v : View = found.1 in
      let few : wins k v ≤ 1 = omega (arith, term_le (wins k) s.views id v found.2, part.agrees.won, most) in
      let entry = under_some k v.won found.3 in
      let sum : winner s.views k ≡ number_sum k v.won =
      total-single (λ u. number_sum k u.won) s.views id v found.2 (λ j u differ at.
      numbers_none k u.won (omega (arith, terms_le (wins k) s.views id j v u differ found.2 at, found.3, part.agrees.won, most))) in
      let its : entry.0 ≡ n = sym (numbers_one entry.0 k v.won few entry.1) ∙ sym sum ∙ seat in
      (id, v, found.2, subst (λ (m : ℕ). 0 < under m k v.won) its entry.1)

  seat_shown : (word seat n : ℕ) → seat_in (phase_shown word seat) ≡ Some n → (0 < word) × (seat ≡ n)
  seat_shown zero seat n is = cc
  seat_shown (suc zero) seat n is = (omega arith, same_some seat n is)
  seat_shown (suc (suc zero)) seat n is = cc
  seat_shown (suc (suc (suc more))) seat n is = (omega arith, same_some seat n is)

  won_if : (shape : Shape) → 0 < encode shape → won_in shape ≡ 1
  won_if Unclaimed some_there = absurd (omega arith)
  won_if Taken some_there = refl
  won_if GivenUp some_there = refl
  won_if (Finished turn cleared reads) some_there = refl

  pub winner_shown :
      (k n : ℕ) → seat_in (phase_of (shown p s) k) ≡ Some n
      → (id : ℕ) × (v : View) × (get_elem? s.views id ≡ some v) × (0 < under n k v.won)
  winner_shown k n is = elim (cases_lt k (length p.entries)) [
    | inl there ↦
        let part = holds.parts k there in
        let told_so = seat_shown (get_or s.words k 0) (winner s.views k) n (sym (ap seat_in (phase_is p s k there)) ∙ is) in
        let won = won_if part.shape (omega (arith, told_so.0, part.agrees.says)) in
        winner_at k n there (omega (arith, part.agrees.won, won)) told_so.1
    | inr past ↦
        absurd (not_both (sym (ap seat_in (get_or_past (shown p s).phases k Idle
        (omega (arith, past, length-below (length p.entries) (phase_at s.words s.views))))) ∙ is))
  ]
    where
      not_both : None ≡ Some n → ⊥
      not_both both = cc
