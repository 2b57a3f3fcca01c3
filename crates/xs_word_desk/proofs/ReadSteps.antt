-- The steps for a read of a finished alias keep the rule: turn, give, retire and clear
use Rattle.std.proofs.Common.{◌≡◌, ◌≢◌, ◌<◌, ◌≤◌, ◌+◌, ◌-◌, ◌/◌, ◌%◌, ◌^◌, ℕ, zero, suc, Bool, true, false, ◌&&◌, ◌==◌, Option, Some, None, List, ◌∷◌, length, set, get_or, refl, sym, ap, subst, ◌∙◌, inl, inr, arith, eq-zero-or-pos, ne_of_gt, bit_and, bit_or, true≢false}
use Rattle.std.proofs.lemmas.List.{length-set}
use Rattle.std.proofs.lemmas.Bool.{ne_eqb, eq-eqb, and_from, and_right, cases_lt}
use mathlib.Core.Option.{some, none, some-injective}
use mathlib.Core.Option as slot
use lib.ListN.{get_elem?}
use Rattle.atomic_table.specs.Table.{State, step, Act, keeps, takes, gives, Valid, carried_after, stepped, Allows}
use Rattle.xs_pixel.specs.Picture.{Pictures}
use Rattle.xs_raster.specs.declared.tile.Tile.{Tile}
use Rattle.xs_core.specs.Calls.{HoldsTile}
use Rattle.xs_plan.specs.Record.{PlanRecord}
use Rattle.xs_plan.specs.declared.job.Reader.{Reader}
use Rattle.xs_plan.specs.declared.job.Reader.TheVariants.{Port, Root}
use Rattle.xs_plan.specs.Reads.{reads_in}
use Rattle.xs_core.specs.Counts.{one_if, how_many}
use Rattle.xs_core.specs.States.{source_at, reader_at}
use Rattle.xs_core.specs.Views.{FoundInTurn, LeftOpen, lacking}
use Rattle.xs_core.proofs.CountLemmas.{how_many-alike, how_many-but_one, how_many-some}
use Rattle.xs_word_desk.specs.declared.view.View.{View}
use Rattle.xs_word_desk.specs.Sums.{total}
use Rattle.xs_word_desk.specs.Words.{Shape, Unclaimed, Taken, GivenUp, Finished, turn_in, leaving_in, leaving_of}
use Rattle.xs_word_desk.specs.Seen.{wins, knows, fills, leaves, turns_on, is_read_of, serves, turns, is_this, owner, has_number, open_reads}
use Rattle.xs_word_desk.specs.Rule.{Slot, Home, Rests, Agrees, ViewOk, Holds}
use Rattle.xs_word_desk.specs.Changes.{with_met, with_turn, with_served, with_cleared}
use Rattle.xs_word_desk.specs.Plays.{At, IsSolo, MayServe, turned, gave, retired, cleared}
use Rattle.xs_word_desk.proofs.WordLemmas.{IsFinished, finished_by_counts, reads_of_word, turn_of_word, turn_set, cleared_set, turn_given, all_but_turn, read_less}
use Rattle.xs_word_desk.proofs.SumLemmas.{total-zero, set_here, set_else, set_within, total-set, term_le, total_le, total_gap, total-plus, total-some, entries_push}
use Rattle.xs_word_desk.proofs.ViewLemmas.{one_at, none_at, some_at, one_if-most, ok_met, ok_turn, ok_given, ok_served, ok_cleared}
use Rattle.xs_word_desk.proofs.FrameLemmas.{Alike, total-stays, open_reads-stay, after, part_moves, steps}
use Rattle.xs_word_desk.proofs.ClaimSteps.{stay_home, meets, alone_sum, won_in-most}

-- at most all numbers pass a test
how_many-most : (n : ℕ) (passes : ℕ → Bool) → how_many n passes ≤ n
unfolding how_many
how_many-most zero passes = omega arith
how_many-most (suc n) passes = omega (arith, how_many-most n passes, one_if-most (passes n))

module _ (told : Option Pictures) (p : PlanRecord) where
  -- an alias that a seat knows is finished
  known_finished :
      (s : State Slot View) (id k : ℕ) (v : View) (shape : Shape) → get_elem? s.views id ≡ some v → 0 < knows k v
      → Agrees told p k (get_or s.words k 0) (get_elem? s.homes k) s.views shape → IsFinished shape
  known_finished s id k v shape me known was =
      finished_by_counts shape (omega (arith, was.known (omega (arith, known, term_le (knows k) s.views id v me))))

  -- a read has one owner at most
  pub owner_total :
      (s : State Slot View) (r : Reader) → Holds told p s
      → total (λ u. owner r (has_number 0 u) u.won) s.views ≤ 1
  owner_total s (Root row tile) holds =
      let chief : one_if (0 == 0) ≡ 1 = refl in omega (arith, holds.seats.numbers 0, holds.seats.positive.0, chief)
  owner_total s (Port alias port) holds =
      elim (cases_lt alias (length p.entries)) [
        | inl there ↦
            let part = holds.parts alias there in omega (arith, part.agrees.won, won_in-most told p part.shape)
        | inr past ↦
            let none_won = total-zero (wins alias) s.views (λ j u at. elim (eq-zero-or-pos (wins alias u)) [
              | inl zero_times ↦ zero_times
              | inr won ↦ let there = (holds.views j u at).within alias (omega (arith, won)) in absurd (omega (arith, there, past))
            ]) in
            omega (arith, none_won)
      ]

  -- nobody has served a read that a seat may serve, nor has another it in turn
  pub unserved :
      (s : State Slot View) (id e k : ℕ) (v : View) → Holds told p s → get_elem? s.views id ≡ some v → MayServe p v e k
      → v.turn ≡ None → total (serves e) s.views + total (turns e) s.views ≡ 0
  unserved s id e k v holds me may rests =
      let own : View → ℕ = λ u. owner (reader_at p e) (has_number 0 u) u.won in
      let all = total_gap (λ u. serves e u + turns e u) own s.views id v (λ j u at. (holds.views j u at).owned e) me in
      let sums = total-plus (serves e) (turns e) s.views in
      let most = owner_total s (reader_at p e) holds in
      let none_mine : turns e v ≡ 0 = ap (is_this e) rests in
      omega (arith, all, sums, most, none_mine, may.mine)

  -- so it is open
  open_some :
      (views : List View) (e k : ℕ) → e < reads_in p → source_at p e ≡ k → total (serves e) views ≡ 0
      → 0 < open_reads p views k
  open_some views e k within source none_served =
      how_many-some (reads_in p) e (λ i. (source_at p i == k) && (total (serves i) views == 0)) within
      (and_from (source_at p e == k) (total (serves e) views == 0) (eq-eqb (source_at p e) k source)
      (eq-eqb (total (serves e) views) 0 none_served))

  -- where a read of an alias is in turn, some read that is not served is, and it is of the plan
  pub in_turn :
      (s : State Slot View) (k : ℕ) → Holds told p s → 0 < total (turns_on p k) s.views
      → (f : ℕ) × (f < reads_in p) × (source_at p f ≡ k) × (total (serves f) s.views ≡ 0) × (0 < total (turns f) s.views)
  in_turn s k holds there_is =
      let found = total-some (turns_on p k) s.views there_is in go found.0 found.1 found.1.turn found.2 refl found.3
    where
      go :
          (j : ℕ) (u : View) (turn : Option ℕ) → get_elem? s.views j ≡ some u → u.turn ≡ turn → 0 < is_read_of p k turn
          → (f : ℕ) × (f < reads_in p) × (source_at p f ≡ k) × (total (serves f) s.views ≡ 0) × (0 < total (turns f) s.views)
      go j u None at is here = absurd (omega arith)
      go j u (Some f) at is here =
          let mine : turns f u ≡ 1 = ap (is_this f) is ∙ one_at f f refl in
          let own : View → ℕ = λ x. owner (reader_at p f) (has_number 0 x) x.won in
          let all = total_le (λ x. serves f x + turns f x) own s.views (λ i x there. (holds.views i x there).owned f) in
          let sums = total-plus (serves f) (turns f) s.views in
          let most = owner_total s (reader_at p f) holds in
          let part = term_le (turns f) s.views j u at in (
            f,
            (holds.views j u at).reads_within f (omega (arith, mine)),
            some_at (source_at p f) k here,
            omega (arith, all, sums, most, part, mine),
            omega (arith, part, mine),
          )

  -- ---- turn

  abbrev TurnGoal : (s : State Slot View) (n id k e : ℕ) (m : At) (word : ℕ) → Type 0
  TurnGoal s n id k e m word =
      (w : View) × (a : Act Slot) × Valid s.homes m.1 a × Holds told p (stepped s k (bit_or word 4) id m.1 w a)
      × turned told p e (step n k 4 0 none) m word (w, carried_after m.1 a)

  -- a seat that is joined has no read in turn
  pub gone_turn :
      (k : ℕ) (u : View) → ViewOk p u → u.live ≡ false → (turn : Option ℕ) → u.turn ≡ turn → turns_on p k u ≡ 0
  gone_turn k u ok joined None is = ap (is_read_of p k) is
  gone_turn k u ok joined (Some f) is =
      let one : turns f u ≡ 1 = ap (is_this f) is ∙ one_at f f refl in absurd (omega (arith, ok.gone joined f, one))

  -- another seat has the tile in turn
  turn_found :
      (s : State Slot View) (n id k e : ℕ) (m : At) (cleared : Bool) (reads : ℕ) → Holds told p s
      → get_elem? s.views id ≡ some m.0 → k < length p.entries → m.0.turn ≡ None
      → Agrees told p k (get_or s.words k 0) (get_elem? s.homes k) s.views (Finished true cleared reads)
      → TurnGoal s n id k e m (get_or s.words k 0)
  turn_found s n id k e m cleared reads holds me there rests was =
      let word : ℕ = get_or s.words k 0 in
      let same : bit_or word 4 ≡ word = ap (λ x. bit_or x 4) was.says ∙ turn_set true cleared reads ∙ sym was.says in
      let bit : word / 4 % 2 ≡ 1 = ap (λ x. x / 4 % 2) was.says ∙ turn_of_word true cleared reads in (
        with_met m.0 k FoundInTurn,
        keeps,
        tt,
        subst (λ (x : ℕ). Holds told p (stepped s k x id m.1 (with_met m.0 k FoundInTurn) keeps)) (sym same)
            (meets told p s id k m.1 m.0 FoundInTurn holds me there),
        (
          λ clear. absurd (omega (arith, bit, clear)),
          λ set_there. (
            refl,
            λ solo.
                let alone = alone_sum told p s id m.0 (turns_on p k) holds me solo (λ u ok joined. gone_turn k u ok joined u.turn refl) in
                let none_mine : turns_on p k m.0 ≡ 0 = ap (is_read_of p k) rests in
                omega (arith, alone, none_mine, was.turn),
          ),
        ),
      )

  turn_taken :
      (s : State Slot View) (n id k e reads : ℕ) (m : At) → Holds told p s
      → get_elem? s.views id ≡ some m.0 → k < length p.entries → m.0.live ≡ true → m.0.turn ≡ None → MayServe p m.0 e k
      → Agrees told p k (get_or s.words k 0) (get_elem? s.homes k) s.views (Finished false false (suc reads))
      → TurnGoal s n id k e m (get_or s.words k 0)
  turn_taken s n id k e reads m holds me there live rests may was =
      let v : View = m.0 in
      let w : View = with_turn v (Some e) in
      let word : ℕ = get_or s.words k 0 in
      let t : Tile = was.lies.1.0 in
      let home : get_elem? s.homes k ≡ some (some (Some t)) = was.lies.1.1 in
      let homes : List (slot.Option Slot) = set s.homes k none in
      let bit : word / 4 % 2 ≡ 0 = ap (λ x. x / 4 % 2) was.says ∙ turn_of_word false false (suc reads) in
      let none_before : turns_on p k v ≡ 0 = ap (is_read_of p k) rests in (
        w,
        takes k (Some t),
        home,
        steps told p s k (bit_or word 4) id v w homes holds me there
            (record { many = length-set s.homes k none; stay = λ j differ. set_else s.homes k j none differ })
            (λ j differ. record {
              won = refl;
              made = refl;
              lost = refl;
              known = refl;
              filling = refl;
              leaving = refl;
              turn = none_at (source_at p e) j (λ is. differ (sym is ∙ may.source)) ∙ sym (ap (is_read_of p j) rests);
              served = λ i is. refl;
            })
            (ok_turn p v e live may.within may.mine rests (holds.views id v me))
            (record { live = refl; number = refl; next = refl; apart = refl; joined = refl })
            (part_moves told p s.views id v w k word (bit_or word 4) (get_elem? s.homes k) (get_elem? homes k)
            (Finished false false (suc reads)) (Finished true false (suc reads)) me was
            (ap (λ x. bit_or x 4) was.says ∙ turn_set false false (suc reads))
            (record {
              won = refl;
              made = refl;
              lost = refl;
              turn = omega (arith, none_before, one_at (source_at p e) k may.source);
              leaving = refl;
            })
            (open_reads-stay p s.views id v w k me (λ i is. refl) ∙ was.counted) (λ there_is. refl) (
              total-stays (fills k) s.views id v w me refl ∙ was.lies.0,
              (set_here s.homes k (some (Some t)) none home, refl, omega arith),
            )),
        (λ clear. (t, refl, was.lies.1.2), λ set_there. absurd (set_there bit)),
      )

  turn_at :
      (s : State Slot View) (n id k e : ℕ) (m : At) (turn cleared : Bool) (reads : ℕ) → Holds told p s
      → get_elem? s.views id ≡ some m.0 → k < length p.entries → m.0.live ≡ true → m.0.turn ≡ None → MayServe p m.0 e k
      → 0 < reads
      → Agrees told p k (get_or s.words k 0) (get_elem? s.homes k) s.views (Finished turn cleared reads)
      → TurnGoal s n id k e m (get_or s.words k 0)
  turn_at s n id k e m true cleared reads holds me there live rests may open_ones was =
      turn_found s n id k e m cleared reads holds me there rests was
  turn_at s n id k e m false true reads holds me there live rests may open_ones was =
      absurd (omega (arith, open_ones, was.lies.1.1))
  turn_at s n id k e m false false zero holds me there live rests may open_ones was = absurd (omega arith)
  turn_at s n id k e m false false (suc reads) holds me there live rests may open_ones was =
      turn_taken s n id k e reads m holds me there live rests may was

  -- the word of the source of a read that a seat may serve: finished, with open reads
  pub record IsOpen (s : State Slot View) (k : ℕ) : Type 0 where
    pub turn : Bool
    pub cleared : Bool
    pub reads : ℕ
    pub open_ones : 0 < reads
    pub agrees : Agrees told p k (get_or s.words k 0) (get_elem? s.homes k) s.views (Finished turn cleared reads)

  pub is_open :
      (s : State Slot View) (id k e : ℕ) (v : View) → Holds told p s → get_elem? s.views id ≡ some v
      → k < length p.entries → v.turn ≡ None → MayServe p v e k → IsOpen s k
  is_open s id k e v holds me there rests may =
      let part = holds.parts k there in
      let shape = known_finished s id k v part.shape me may.known part.agrees in
      let agrees = subst (Agrees told p k (get_or s.words k 0) (get_elem? s.homes k) s.views) shape.is part.agrees in
      let none_served : total (serves e) s.views ≡ 0 = omega (arith, unserved s id e k v holds me may rests) in record {
        turn = shape.turn;
        cleared = shape.cleared;
        reads = shape.reads;
        open_ones = omega (arith, agrees.counted, open_some s.views e k may.within may.source none_served);
        agrees = agrees;
      }

  pub turns_it :
      (n id k e : ℕ) (m : At) → k < length p.entries → m.0.live ≡ true → m.0.turn ≡ None → MayServe p m.0 e k
      → Allows (Holds told p) n id m k (λ word. bit_or word 4) (turned told p e (step n k 4 0 none) m)
  turns_it n id k e m there live rests may s holds deep me fits =
      let it = is_open s id k e m.0 holds me there rests may in
      turn_at s n id k e m it.turn it.cleared it.reads holds me there live rests may it.open_ones it.agrees

  -- ---- give

  give_taken :
      (s : State Slot View) (n id k e : ℕ) (v : View) (t : Tile) (c : List (ℕ × Slot)) (cleared : Bool) (reads : ℕ)
      → Holds told p s → get_elem? s.views id ≡ some v → k < length p.entries → v.turn ≡ Some e → source_at p e ≡ k
      → HoldsTile told p k t → get_or s.words k 0 < 2 ^ 64 → cleared ≡ false → 0 < reads
      → Agrees told p k (get_or s.words k 0) (get_elem? s.homes k) s.views (Finished true cleared reads)
      → Holds told p
      (after told p s k (bit_and (get_or s.words k 0) all_but_turn) id (with_turn v None) (set s.homes k (some (Some t))))
  give_taken s n id k e v t c true reads holds me there has source value fits not_cleared open_ones was =
      absurd (true≢false not_cleared)
  give_taken s n id k e v t c false zero holds me there has source value fits not_cleared open_ones was =
      absurd (omega arith)
  give_taken s n id k e v t c false (suc reads) holds me there has source value fits not_cleared open_ones was =
      let w : View = with_turn v None in
      let word : ℕ = get_or s.words k 0 in
      let homes : List (slot.Option Slot) = set s.homes k (some (Some t)) in
      let mine : turns_on p k v ≡ 1 = ap (is_read_of p k) has ∙ one_at (source_at p e) k source in
      steps told p s k (bit_and word all_but_turn) id v w homes holds me there
      (record { many = length-set s.homes k (some (Some t)); stay = λ j differ. set_else s.homes k j (some (Some t)) differ })
      (λ j differ. record {
        won = refl;
        made = refl;
        lost = refl;
        known = refl;
        filling = refl;
        leaving = refl;
        turn = sym (ap (is_read_of p j) has ∙ none_at (source_at p e) j (λ is. differ (sym is ∙ source)));
        served = λ i is. refl;
      })
      (ok_given p v (holds.views id v me))
      (record { live = refl; number = refl; next = refl; apart = refl; joined = refl })
      (part_moves told p s.views id v w k word (bit_and word all_but_turn) (get_elem? s.homes k) (get_elem? homes k)
      (Finished true false (suc reads)) (Finished false false (suc reads)) me was
      (ap (λ x. bit_and x all_but_turn) was.says
      ∙ turn_given true false (suc reads) (subst (λ (x : ℕ). x < 2 ^ 64) was.says fits))
      (record { won = refl; made = refl; lost = refl; turn = omega (arith, mine); leaving = refl })
      (open_reads-stay p s.views id v w k me (λ i is. refl) ∙ was.counted) (λ there_is. refl) (
        total-stays (fills k) s.views id v w me refl ∙ was.lies.0,
        (t, set_within s.homes k (some (Some t)) (omega (arith, holds.deep, there)), value),
      ))

  give_at :
      (s : State Slot View) (n id k e : ℕ) (v : View) (t : Tile) (c : List (ℕ × Slot)) (shape : Shape)
      → Holds told p s → get_elem? s.views id ≡ some v → k < length p.entries → v.turn ≡ Some e → source_at p e ≡ k
      → HoldsTile told p k t → get_or s.words k 0 < 2 ^ 64 → turn_in shape ≡ 1
      → Agrees told p k (get_or s.words k 0) (get_elem? s.homes k) s.views shape
      → Holds told p
      (after told p s k (bit_and (get_or s.words k 0) all_but_turn) id (with_turn v None) (set s.homes k (some (Some t))))
  give_at s n id k e v t c Unclaimed holds me there has source value fits one was = absurd (omega arith)
  give_at s n id k e v t c Taken holds me there has source value fits one was = absurd (omega arith)
  give_at s n id k e v t c GivenUp holds me there has source value fits one was = absurd (omega arith)
  give_at s n id k e v t c (Finished false cleared reads) holds me there has source value fits one was = absurd (omega arith)
  give_at s n id k e v t c (Finished true cleared reads) holds me there has source value fits one was =
      give_taken s n id k e v t c cleared reads holds me there has source value fits was.lies.1.1 was.lies.1.2 was

  pub turn_in-most : (shape : Shape) → turn_in shape ≤ 1
  turn_in-most Unclaimed = omega arith
  turn_in-most Taken = omega arith
  turn_in-most GivenUp = omega arith
  turn_in-most (Finished true cleared reads) = omega arith
  turn_in-most (Finished false cleared reads) = omega arith

  pub gives_it :
      (n id k e : ℕ) (v : View) (t : Tile) (c : List (ℕ × Slot)) → k < length p.entries → v.turn ≡ Some e
      → source_at p e ≡ k → HoldsTile told p k t
      → Allows (Holds told p) n id (v, (k, Some t) ∷ c) k (λ word. bit_and word all_but_turn)
      (gave (step n k all_but_turn 0 none) (v, (k, Some t) ∷ c))
  gives_it n id k e v t c there has source value s holds deep me fits =
      let part = holds.parts k there in
      let mine : turns_on p k v ≡ 1 = ap (is_read_of p k) has ∙ one_at (source_at p e) k source in
      let one : turn_in part.shape ≡ 1 =
      omega (arith, part.agrees.turn, mine, term_le (turns_on p k) s.views id v me, turn_in-most part.shape) in (
        with_turn v None,
        gives,
        tt,
        give_at s n id k e v t c part.shape holds me there has source value fits one part.agrees,
        refl,
      )

  -- ---- clear

  clear_at :
      (s : State Slot View) (id k : ℕ) (v : View) (shape : Shape) → Holds told p s → get_elem? s.views id ≡ some v
      → k < length p.entries → v.leaving ≡ Some k → leaving_in shape ≡ 1
      → Agrees told p k (get_or s.words k 0) (get_elem? s.homes k) s.views shape
      → Holds told p (after told p s k (bit_or (get_or s.words k 0) 8) id (with_cleared v) (set s.homes k (some None)))
  clear_at s id k v Unclaimed holds me there has one was = absurd (omega arith)
  clear_at s id k v Taken holds me there has one was = absurd (omega arith)
  clear_at s id k v GivenUp holds me there has one was = absurd (omega arith)
  clear_at s id k v (Finished turn true reads) holds me there has one was = absurd (omega arith)
  clear_at s id k v (Finished turn false (suc reads)) holds me there has one was = absurd (omega arith)
  clear_at s id k v (Finished true false zero) holds me there has one was = absurd (omega (arith, was.lies.1.2))
  clear_at s id k v (Finished false false zero) holds me there has one was =
      let w : View = with_cleared v in
      let word : ℕ = get_or s.words k 0 in
      let homes : List (slot.Option Slot) = set s.homes k (some None) in
      let mine : leaves k v ≡ 1 = ap (is_this k) has ∙ one_at k k refl in
      steps told p s k (bit_or word 8) id v w homes holds me there
      (record { many = length-set s.homes k (some None); stay = λ j differ. set_else s.homes k j (some None) differ })
      (λ j differ. record {
        won = refl;
        made = refl;
        lost = refl;
        known = refl;
        filling = refl;
        leaving = sym (ap (is_this j) has ∙ none_at k j (λ is. differ (sym is)));
        turn = refl;
        served = λ i is. refl;
      })
      (ok_cleared p v (holds.views id v me))
      (record { live = refl; number = refl; next = refl; apart = refl; joined = refl })
      (part_moves told p s.views id v w k word (bit_or word 8) (get_elem? s.homes k) (get_elem? homes k)
      (Finished false false zero) (Finished false true zero) me was
      (ap (λ x. bit_or x 8) was.says ∙ cleared_set false false zero)
      (record { won = refl; made = refl; lost = refl; turn = refl; leaving = omega (arith, mine) })
      (open_reads-stay p s.views id v w k me (λ i is. refl) ∙ was.counted) (λ there_is. refl) (
        total-stays (fills k) s.views id v w me refl ∙ was.lies.0,
        (set_within s.homes k (some None) (omega (arith, holds.deep, there)), refl),
      ))

  pub leaving_in-most : (shape : Shape) → leaving_in shape ≤ 1
  leaving_in-most Unclaimed = omega arith
  leaving_in-most Taken = omega arith
  leaving_in-most GivenUp = omega arith
  leaving_in-most (Finished turn true reads) = omega arith
  leaving_in-most (Finished turn false zero) = omega arith
  leaving_in-most (Finished turn false (suc reads)) = omega arith

  pub clears :
      (n id k : ℕ) (v : View) (c : List (ℕ × Slot)) → k < length p.entries → v.leaving ≡ Some k
      → Allows (Holds told p) n id (v, (k, None) ∷ c) k (λ word. bit_or word 8)
      (cleared (step n k 8 0 none) (v, (k, None) ∷ c))
  clears n id k v c there has s holds deep me fits =
      let part = holds.parts k there in
      let mine : leaves k v ≡ 1 = ap (is_this k) has ∙ one_at k k refl in
      let one : leaving_in part.shape ≡ 1 =
      omega (arith, part.agrees.leaving, mine, term_le (leaves k) s.views id v me, leaving_in-most part.shape) in (
        with_cleared v,
        gives,
        tt,
        clear_at s id k v part.shape holds me there has one part.agrees,
        refl,
      )

  -- ---- retire

  -- one read less is open
  pub open_less :
      (views : List View) (id e k : ℕ) (v w : View) → get_elem? views id ≡ some v → e < reads_in p → source_at p e ≡ k
      → total (serves e) views ≡ 0 → serves e w ≡ serves e v + 1 → ((i : ℕ) → i ≢ e → serves i w ≡ serves i v)
      → open_reads p (set views id w) k + 1 ≡ open_reads p views k
  open_less views id e k v w me within source none_served more same =
      let before : ℕ → Bool = λ i. (source_at p i == k) && (total (serves i) views == 0) in
      let now : ℕ → Bool = λ i. (source_at p i == k) && (total (serves i) (set views id w) == 0) in
      let change = how_many-but_one (reads_in p) e now before within (λ i less differ.
      ap (λ m. (source_at p i == k) && (m == 0)) (total-stays (serves i) views id v w me (same i differ))) in
      let was_open : one_if (before e) ≡ 1 = ap one_if
      (and_from (source_at p e == k) (total (serves e) views == 0) (eq-eqb (source_at p e) k source) (eq-eqb (total (serves e) views) 0 none_served)) in
      let served_now : total (serves e) (set views id w) ≢ 0 = ne_of_gt (omega (arith, total-set (serves e) views id v w me, more)) in
      let not_open : one_if (now e) ≡ 0 = ap one_if
      (and_right (source_at p e == k) (total (serves e) (set views id w) == 0) (ne_eqb (total (serves e) (set views id w)) 0 served_now)) in
      omega (arith, change, was_open, not_open)

  -- no more reads of an alias are open than there are reads
  open_most : (views : List View) (k : ℕ) → open_reads p views k ≤ reads_in p
  open_most views k = how_many-most (reads_in p) (λ e. (source_at p e == k) && (total (serves e) views == 0))

  -- a seat that is alone has served all that is served
  pub alone_open :
      (s : State Slot View) (id k : ℕ) (v : View) → Holds told p s → get_elem? s.views id ≡ some v → IsSolo v
      → open_reads p s.views k ≡ lacking p v.served k
  alone_open s id k v holds me solo =
      how_many-alike (reads_in p) (λ e. (source_at p e == k) && (total (serves e) s.views == 0))
      (λ e. (source_at p e == k) && (serves e v == 0)) (λ e less.
      ap (λ m. (source_at p e == k) && (m == 0))
      (alone_sum told p s id v (serves e) holds me solo (λ u ok joined. omega (arith, ok.gone joined e))))

  -- the seat after it served a read of the alias, by the word that it found
  abbrev served_view : View → ℕ → ℕ → ℕ → Option ℕ → View
  served_view v e k word leaving = with_met (with_served v e leaving) k (LeftOpen (word / 16 - 1))

  abbrev RetireGoal : (s : State Slot View) (n id k e : ℕ) (m : At) (word : ℕ) → Type 0
  RetireGoal s n id k e m word =
      (w : View) × (a : Act Slot) × Valid s.homes m.1 a × Holds told p (stepped s k ((word + (2 ^ 64 - 16)) % 2 ^ 64) id m.1 w a)
      × retired p e (step n k 16 0 none) m word (w, carried_after m.1 a)

  -- what is the same of all other aliases
  served_alike :
      (v : View) (e k word : ℕ) (leaving : Option ℕ) (j : ℕ) → j ≢ k → source_at p e ≡ k → v.leaving ≡ None
      → is_this j leaving ≡ 0 → Alike p j v (served_view v e k word leaving)
  served_alike v e k word leaving j differ source rests other = record {
    won = refl;
    made = refl;
    lost = refl;
    known = refl;
    filling = refl;
    leaving = other ∙ sym (ap (is_this j) rests);
    turn = refl;
    served = λ i is.
        let not_it : one_if (e == i) ≡ 0 = none_at e i (λ same. differ (sym is ∙ sym (ap (source_at p) same) ∙ source)) in
        omega (arith, entries_push i v.number e v.served, not_it);
  }

  -- the reads that are open after it
  served_count :
      (s : State Slot View) (id e k word reads : ℕ) (v : View) (leaving : Option ℕ) → get_elem? s.views id ≡ some v
      → MayServe p v e k → total (serves e) s.views ≡ 0 → open_reads p s.views k ≡ suc reads
      → open_reads p (set s.views id (served_view v e k word leaving)) k ≡ reads
  served_count s id e k word reads v leaving me may none_served before =
      let w : View = served_view v e k word leaving in
      let less = open_less s.views id e k v w me may.within may.source none_served
      (omega (arith, entries_push e v.number e v.served, one_at e e refl))
      (λ i differ. omega (arith, entries_push i v.number e v.served, none_at e i (λ same. differ (sym same)))) in
      omega (arith, less, before)

  rests_less :
      (k : ℕ) (home : Home) (turn cleared : Bool) (reads : ℕ) → Rests told p k home turn cleared (suc (suc reads))
      → Rests told p k home turn cleared (suc reads)
  rests_less k home true cleared reads was = (was.0, was.1, omega arith)
  rests_less k home false true reads was = absurd (omega (arith, was.1))
  rests_less k home false false reads was = was

  leaving_alike : (cleared : Bool) (reads : ℕ) → leaving_of cleared (suc reads) ≡ 0
  leaving_alike true reads = refl
  leaving_alike false reads = refl

  -- other reads are open after it
  retire_more :
      (s : State Slot View) (n id k e : ℕ) (m : At) (turn cleared : Bool) (reads : ℕ) → Holds told p s
      → get_elem? s.views id ≡ some m.0 → k < length p.entries → m.0.live ≡ true → m.0.turn ≡ None → m.0.leaving ≡ None
      → MayServe p m.0 e k → get_or s.words k 0 < 2 ^ 64
      → Agrees told p k (get_or s.words k 0) (get_elem? s.homes k) s.views (Finished turn cleared (suc (suc reads)))
      → RetireGoal s n id k e m (get_or s.words k 0)
  retire_more s n id k e m turn cleared reads holds me there live rests stays may fits was =
      let v : View = m.0 in
      let word : ℕ = get_or s.words k 0 in
      let w : View = served_view v e k word None in
      let next : ℕ = (word + (2 ^ 64 - 16)) % 2 ^ 64 in
      let none_served : total (serves e) s.views ≡ 0 = omega (arith, unserved s id e k v holds me may rests) in
      let count : word / 16 ≡ suc (suc reads) = ap (λ x. x / 16) was.says ∙ reads_of_word turn cleared (suc (suc reads)) in
      let leaves_none : leaves k v ≡ 0 = ap (is_this k) stays in
      let still = served_count s id e k word (suc reads) v None me may none_served was.counted in
      let kept : Holds told p (stepped s k next id m.1 w keeps) =
      steps told p s k next id v w s.homes holds me there (stay_home told p k s.homes)
      (λ j differ. served_alike v e k word None j differ may.source stays refl)
      (ok_met p (with_served v e None) k (LeftOpen (word / 16 - 1))
      (ok_served p v e None live may.within may.mine rests
      (subst (λ (j : ℕ). 0 < knows j v) (sym may.source) may.known) (holds.views id v me)))
      (record { live = refl; number = refl; next = refl; apart = refl; joined = refl })
      (part_moves told p s.views id v w k word next (get_elem? s.homes k) (get_elem? s.homes k)
      (Finished turn cleared (suc (suc reads))) (Finished turn cleared (suc reads)) me was
      (ap (λ x. (x + (2 ^ 64 - 16)) % 2 ^ 64) was.says
      ∙ read_less turn cleared (suc reads) (subst (λ (x : ℕ). x < 2 ^ 64) was.says fits))
      (record {
        won = refl;
        made = refl;
        lost = refl;
        turn = refl;
        leaving = omega (arith, leaves_none, leaving_alike cleared reads, leaving_alike cleared (suc reads));
      })
      still (λ there_is. refl) (
        total-stays (fills k) s.views id v w me refl ∙ was.lies.0,
        rests_less k (get_elem? s.homes k) turn cleared reads was.lies.1,
      )) in (
        w,
        keeps,
        tt,
        kept,
        (
          λ last. absurd (omega (arith, count, last)),
          λ more. refl,
          omega (arith, count),
          omega (arith, count, was.counted, open_most s.views k),
          λ solo. let alone = alone_open (stepped s k next id m.1 w keeps) id k w kept (set_here s.views id v w me) solo in
              omega (arith, count, still, alone),
        ),
      )

  -- it was the last one
  retire_last :
      (s : State Slot View) (n id k e : ℕ) (m : At) → Holds told p s
      → get_elem? s.views id ≡ some m.0 → k < length p.entries → m.0.live ≡ true → m.0.turn ≡ None → m.0.leaving ≡ None
      → MayServe p m.0 e k → get_or s.words k 0 < 2 ^ 64
      → Agrees told p k (get_or s.words k 0) (get_elem? s.homes k) s.views (Finished false false 1)
      → RetireGoal s n id k e m (get_or s.words k 0)
  retire_last s n id k e m holds me there live rests stays may fits was =
      let v : View = m.0 in
      let word : ℕ = get_or s.words k 0 in
      let w : View = served_view v e k word (Some k) in
      let next : ℕ = (word + (2 ^ 64 - 16)) % 2 ^ 64 in
      let t : Tile = was.lies.1.0 in
      let home : get_elem? s.homes k ≡ some (some (Some t)) = was.lies.1.1 in
      let homes : List (slot.Option Slot) = set s.homes k none in
      let none_served : total (serves e) s.views ≡ 0 = omega (arith, unserved s id e k v holds me may rests) in
      let count : word / 16 ≡ 1 = ap (λ x. x / 16) was.says ∙ reads_of_word false false 1 in
      let leaves_none : leaves k v ≡ 0 = ap (is_this k) stays in
      let still = served_count s id e k word 0 v (Some k) me may none_served was.counted in
      let kept : Holds told p (stepped s k next id m.1 w (takes k (Some t))) =
      steps told p s k next id v w homes holds me there
      (record { many = length-set s.homes k none; stay = λ j differ. set_else s.homes k j none differ })
      (λ j differ. served_alike v e k word (Some k) j differ may.source stays (none_at k j (λ is. differ (sym is))))
      (ok_met p (with_served v e (Some k)) k (LeftOpen (word / 16 - 1))
      (ok_served p v e (Some k) live may.within may.mine rests
      (subst (λ (j : ℕ). 0 < knows j v) (sym may.source) may.known) (holds.views id v me)))
      (record { live = refl; number = refl; next = refl; apart = refl; joined = refl })
      (part_moves told p s.views id v w k word next (get_elem? s.homes k) (get_elem? homes k)
      (Finished false false 1) (Finished false false 0) me was
      (ap (λ x. (x + (2 ^ 64 - 16)) % 2 ^ 64) was.says
      ∙ read_less false false 0 (subst (λ (x : ℕ). x < 2 ^ 64) was.says fits))
      (record {
        won = refl;
        made = refl;
        lost = refl;
        turn = refl;
        leaving = omega (arith, leaves_none, one_at k k refl);
      })
      still (λ there_is. refl)
      (total-stays (fills k) s.views id v w me refl ∙ was.lies.0, set_here s.homes k (some (Some t)) none home)) in (
        w,
        takes k (Some t),
        home,
        kept,
        (
          λ last. (t, ap (λ (x : ℕ). (with_met (with_served v e (Some k)) k (LeftOpen x), (k, Some t) ∷ m.1)) (omega (arith, count))),
          λ more. absurd (more count),
          omega (arith, count),
          omega (arith, count, was.counted, open_most s.views k),
          λ solo. let alone = alone_open (stepped s k next id m.1 w (takes k (Some t))) id k w kept (set_here s.views id v w me) solo in
              omega (arith, count, still, alone),
        ),
      )

  -- where it is the last one no read of the alias is in turn: that one would be open too
  last_no_turn :
      (s : State Slot View) (id k e : ℕ) (v : View) (cleared : Bool) → Holds told p s → get_elem? s.views id ≡ some v
      → v.turn ≡ None → MayServe p v e k
      → Agrees told p k (get_or s.words k 0) (get_elem? s.homes k) s.views (Finished true cleared 1) → ⊥
  last_no_turn s id k e v cleared holds me rests may was =
      let none_here = unserved s id e k v holds me may rests in
      let none_served : total (serves e) s.views ≡ 0 = omega (arith, none_here) in
      let other = in_turn s k holds (omega (arith, was.turn)) in
      let f : ℕ = other.0 in
      let w : View = served_view v e k 0 None in
      let differ : e ≢ f = λ same. omega (arith, none_here, other.4, ap (λ i. total (turns i) s.views) same) in
      let still : total (serves f) (set s.views id w) ≡ 0 = total-stays (serves f) s.views id v w me
      (omega (arith, entries_push f v.number e v.served, none_at e f differ)) ∙ other.3 in
      omega (
        arith,
        served_count s id e k 0 0 v None me may none_served was.counted,
        open_some (set s.views id w) f k other.1 other.2 still,
      )

  retire_at :
      (s : State Slot View) (n id k e : ℕ) (m : At) (turn cleared : Bool) (reads : ℕ) → Holds told p s
      → get_elem? s.views id ≡ some m.0 → k < length p.entries → m.0.live ≡ true → m.0.turn ≡ None → m.0.leaving ≡ None
      → MayServe p m.0 e k → get_or s.words k 0 < 2 ^ 64 → 0 < reads
      → Agrees told p k (get_or s.words k 0) (get_elem? s.homes k) s.views (Finished turn cleared reads)
      → RetireGoal s n id k e m (get_or s.words k 0)
  retire_at s n id k e m turn cleared zero holds me there live rests stays may fits open_ones was = absurd (omega arith)
  retire_at s n id k e m turn cleared (suc (suc reads)) holds me there live rests stays may fits open_ones was =
      retire_more s n id k e m turn cleared reads holds me there live rests stays may fits was
  retire_at s n id k e m true cleared (suc zero) holds me there live rests stays may fits open_ones was =
      absurd (last_no_turn s id k e m.0 cleared holds me rests may was)
  retire_at s n id k e m false true (suc zero) holds me there live rests stays may fits open_ones was =
      absurd (omega (arith, was.lies.1.1))
  retire_at s n id k e m false false (suc zero) holds me there live rests stays may fits open_ones was =
      retire_last s n id k e m holds me there live rests stays may fits was

  pub retires :
      (n id k e : ℕ) (m : At) → k < length p.entries → m.0.live ≡ true → m.0.turn ≡ None → m.0.leaving ≡ None
      → MayServe p m.0 e k
      → Allows (Holds told p) n id m k (λ word. (word + (2 ^ 64 - 16)) % 2 ^ 64) (retired p e (step n k 16 0 none) m)
  retires n id k e m there live rests stays may s holds deep me fits =
      let it = is_open s id k e m.0 holds me there rests may in
      retire_at s n id k e m it.turn it.cleared it.reads holds me there live rests stays may fits it.open_ones it.agrees
