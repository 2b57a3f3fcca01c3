-- What the steps tell a seat is what the calls of a desk tell, and the seat keeps what every desk keeps
use Rattle.std.proofs.Common.{append-nil, false, ◌≡◌, ◌<◌, ◌≤◌, ◌+◌, ◌⊎◌, ℕ, true, ◌&&◌, ◌==◌, cond, Option, None, Result, Ok, Err, [], ◌∷◌, ◌++◌, length, refl, sym, ap, subst, subst₂, ◌∙◌, inl, inr, arith, eq-zero-or-pos, ne_of_gt}
use Rattle.std.proofs.lemmas.Bool.{cases_eq, ne_eqb, false_from_ne_true}
use Rattle.atomic_table.specs.Seated.{TableId}
use Rattle.xs_plan.specs.declared.job.Reader.{Reader}
use Rattle.xs_plan.specs.declared.job.Reader.TheVariants.{Port, Root}
use Rattle.xs_plan.specs.Record.{PlanRecord}
use Rattle.xs_core.specs.declared.answer.Claim.{Claim}
use Rattle.xs_core.specs.declared.answer.Look.{Look}
use Rattle.xs_core.specs.declared.answer.Reading.{Reading}
use Rattle.xs_core.specs.declared.answer.Reading.TheVariants as reading
use Rattle.xs_base.specs.declared.memory.Memory.{Memory}
use Rattle.xs_pixel.specs.Picture.{Pictures}
use Rattle.xs_core.specs.Counts.{one_if}
use Rattle.xs_core.specs.States.{source_at, reader_at}
use Rattle.xs_core.specs.Views.{signed, Met, FoundIdle, FoundBusy, FoundLost, FoundInTurn, LeftOpen, meeting, MayRead, IsMine}
use Rattle.xs_core.specs.Calls.{Adds, Stays, ClaimTells, LookTells, FinishTells, AbandonTells, ReadingTells, ReadTells, HoldsTile}
use Rattle.xs_word_desk.specs.declared.view.View.{View}
use Rattle.xs_word_desk.specs.Words.{Shape, Unclaimed, Taken, GivenUp, Finished, encode, IsClaimAnswer, IsLookAnswer}
use Rattle.xs_word_desk.specs.Seen.{wins, makes, loses, knows, is_this, owner, has_number}
use Rattle.xs_word_desk.specs.Changes.{with_won, with_met, with_known, with_filling, with_made, with_lost, with_turn, with_served}
use Rattle.xs_word_desk.specs.Plays.{At, IsSolo, ReadingTold, ReadTold, Found, found_as, MayServe}
use Rattle.xs_word_desk.specs.Own.{IsOwn, owner_under}
use Rattle.xs_word_desk.specs.Desks.{is_solo, desk_view, Keeps}
use Rattle.xs_word_desk.specs.DeskLaw.{solo_is}
use Rattle.xs_word_desk.proofs.SumLemmas.{entries_push, times_push}
use Rattle.xs_word_desk.proofs.ViewLemmas.{one_at, none_at, ok_met, ok_won, ok_known, ok_filling, ok_made, ok_lost, ok_served}
use Rattle.xs_word_desk.proofs.OwnLemmas.{under_le, own_met, own_known, own_won, own_made, own_lost, own_served}

-- ---- what a seat keeps

module _ (p : PlanRecord) where
  pub keeps_met : (v : View) (k : ℕ) (met : Met) → Keeps p v → Keeps p (with_met v k met)
  keeps_met v k met keeps = record {
    plan = keeps.plan;
    rests = record { live = keeps.rests.live; filling = keeps.rests.filling; turn = keeps.rests.turn; leaving = keeps.rests.leaving };
    ok = ok_met p v k met keeps.ok;
    own = own_met p v k met keeps.own;
    once = keeps.once;
    alone_made = keeps.alone_made;
    next = keeps.next;
    fresh = keeps.fresh;
    counted = keeps.counted;
  }

  keeps_won : (v : View) (k : ℕ) → k < length p.entries → wins k v ≡ 0 → Keeps p v → Keeps p (with_won v k)
  keeps_won v k there unwon keeps = record {
    plan = keeps.plan;
    rests = record { live = keeps.rests.live; filling = keeps.rests.filling; turn = keeps.rests.turn; leaving = keeps.rests.leaving };
    ok = ok_won p v k keeps.rests.live there keeps.ok;
    own = own_won p v k keeps.own;
    once = λ j. elim (cases_eq k j) [
      | inl same ↦
          let none_yet : wins j v ≡ 0 = subst (λ (i : ℕ). wins i v ≡ 0) same unwon in
          omega (arith, none_yet, entries_push j v.number k v.won, one_at k j same)
      | inr differ ↦ omega (arith, keeps.once j, entries_push j v.number k v.won, none_at k j differ)
    ];
    alone_made = keeps.alone_made;
    next = keeps.next;
    fresh = keeps.fresh;
    counted = keeps.counted;
  }

  -- one that it finds ready, which it made if it is alone
  keeps_known :
      (v : View) (k : ℕ) → k < length p.entries → (IsSolo v → 0 < makes k v) → Keeps p v → Keeps p (with_known v k)
  keeps_known v k there made keeps = record {
    plan = keeps.plan;
    rests = record { live = keeps.rests.live; filling = keeps.rests.filling; turn = keeps.rests.turn; leaving = keeps.rests.leaving };
    ok = ok_known p v k keeps.rests.live there keeps.ok;
    own = own_known p v k keeps.own;
    once = keeps.once;
    alone_made = λ solo j some. elim (cases_eq k j) [
      | inl same ↦ subst (λ (i : ℕ). 0 < makes i v) same (made solo)
      | inr differ ↦ keeps.alone_made solo j (omega (arith, some, times_push j k v.known, none_at k j differ))
    ];
    next = keeps.next;
    fresh = keeps.fresh;
    counted = keeps.counted;
  }

  pub keeps_made : (v : View) (k : ℕ) → makes k v + loses k v < wins k v → Keeps p v → Keeps p (with_made v k)
  keeps_made v k claimed keeps = record {
    plan = keeps.plan;
    rests = record { live = keeps.rests.live; filling = refl; turn = keeps.rests.turn; leaving = keeps.rests.leaving };
    ok = ok_made p (with_filling v k) k keeps.rests.live refl (ok_filling p v k keeps.rests.live keeps.rests.filling claimed keeps.ok);
    own = own_made p v k claimed (keeps.once k) keeps.own;
    once = keeps.once;
    alone_made = λ solo j some. elim (cases_eq k j) [
      | inl same ↦ omega (arith, entries_push j v.number k v.made, one_at k j same)
      | inr differ ↦
          let before = keeps.alone_made solo j (omega (arith, some, times_push j k v.known, none_at k j differ)) in
          omega (arith, before, entries_push j v.number k v.made)
    ];
    next = keeps.next;
    fresh = keeps.fresh;
    counted = keeps.counted;
  }

  pub keeps_lost : (v : View) (k : ℕ) → makes k v + loses k v < wins k v → Keeps p v → Keeps p (with_lost v k)
  keeps_lost v k claimed keeps = record {
    plan = keeps.plan;
    rests = record { live = keeps.rests.live; filling = keeps.rests.filling; turn = keeps.rests.turn; leaving = keeps.rests.leaving };
    ok = ok_lost p v k keeps.rests.live (ap (is_this k) keeps.rests.filling) claimed keeps.ok;
    own = own_lost p v k claimed (keeps.once k) keeps.own;
    once = keeps.once;
    alone_made = keeps.alone_made;
    next = keeps.next;
    fresh = keeps.fresh;
    counted = keeps.counted;
  }

  -- giving a turn back leaves a seat at rest as it is
  pub keeps_given : (v : View) → Keeps p v → Keeps p (with_turn v None)
  keeps_given v keeps = subst (λ (t : Option ℕ). Keeps p (with_turn v t)) keeps.rests.turn keeps

  -- ---- reads

  owns_it : (id : TableId) (v : View) (r : Reader) → v.live ≡ true → IsMine (desk_view id v) r → 0 < owner_under r v.number v.won
  owns_it id v (Port alias port) live mine = omega (arith, mine)
  owns_it id v (Root row tile) live mine = omega (arith, one_at v.number 0 mine)

  may_own :
      (id : TableId) (v : View) (r : Reader) → v.live ≡ true → IsMine (desk_view id v) r → 0 < owner r (has_number 0 v) v.won
  may_own id v (Port alias port) live mine = omega (arith, mine, under_le v.number alias v.won)
  may_own id v (Root row tile) live mine =
      let is : has_number 0 v ≡ one_if (v.number == 0) = ap (λ b. one_if (b && (v.number == 0))) live in
      omega (arith, is, one_at v.number 0 mine)

  is_own : (id : TableId) (v : View) (r : Reader) → IsMine (desk_view id v) r → IsOwn r v.number v.won v.lost
  is_own id v (Port alias port) mine = mine
  is_own id v (Root row tile) mine = mine

  -- a read that a desk may serve its seat may serve
  pub may_serve :
      (id : TableId) (v : View) (e k : ℕ) → Keeps p v → source_at p e ≡ k → MayRead p (desk_view id v) e → MayServe p v e k
  may_serve id v e k keeps source may =
      let some = may_own id v (reader_at p e) keeps.rests.live may.mine in record {
        within = may.within;
        source = source;
        mine = omega (arith, some, may.unserved);
        known = subst (λ (j : ℕ). 0 < knows j v) source may.known;
        own = is_own id v (reader_at p e) may.mine;
      }

  pub keeps_served :
      (id : TableId) (v : View) (e k n : ℕ) → Keeps p v → source_at p e ≡ k → MayRead p (desk_view id v) e
      → Keeps p (with_met (with_served v e None) k (LeftOpen n))
  keeps_served id v e k n keeps source may =
      let serve = may_serve id v e k keeps source may in
      keeps_met (with_served v e None) k (LeftOpen n) (record {
        plan = keeps.plan;
        rests = record { live = keeps.rests.live; filling = keeps.rests.filling; turn = keeps.rests.turn; leaving = refl };
        ok = ok_served p v e None keeps.rests.live serve.within serve.mine keeps.rests.turn may.known keeps.ok;
        own = own_served p v e None (owns_it id v (reader_at p e) keeps.rests.live may.mine) may.unserved keeps.own;
        once = keeps.once;
        alone_made = keeps.alone_made;
        next = keeps.next;
        fresh = keeps.fresh;
        counted = keeps.counted;
      })

-- ---- what a word tells

-- where the word is none of the three that are not finished
not_three : {A : Type 0} (word : ℕ) (a b c d : A) → 3 ≤ word
    → cond (word == 0) a (cond (word == 1) b (cond (word == 2) c d)) ≡ d
not_three word a b c d more =
    ap (λ t. cond t a (cond (word == 1) b (cond (word == 2) c d))) (ne_eqb word 0 (ne_of_gt (omega (arith, more))))
    ∙ ap (λ t. cond t b (cond (word == 2) c d)) (ne_eqb word 1 (ne_of_gt (omega (arith, more))))
    ∙ ap (λ t. cond t c d) (ne_eqb word 2 (ne_of_gt (omega (arith, more))))

-- the seat after a claim or a look that found this word, where it is idle as told
abbrev pub after_look : View → View → ℕ → ℕ → View
after_look v idle k word = cond (word == 0) idle (found_as v k word)

-- a seat that has nothing new but in what it met or knows
met_stays : (id : TableId) (v : View) (k : ℕ) (met : Met) → Stays (desk_view id v) (desk_view id (with_met v k met))
met_stays id v k met = record {
  home = refl;
  number = refl;
  solo = refl;
  won = sym (append-nil v.won);
  made = sym (append-nil v.made);
  lost = sym (append-nil v.lost);
  served = sym (append-nil v.served);
  knows = λ j known. known;
  more = meeting k met ∷ [];
  met = refl;
}

known_stays : (id : TableId) (v : View) (k : ℕ) → Stays (desk_view id v) (desk_view id (with_known v k))
known_stays id v k = record {
  home = refl;
  number = refl;
  solo = refl;
  won = sym (append-nil v.won);
  made = sym (append-nil v.made);
  lost = sym (append-nil v.lost);
  served = sym (append-nil v.served);
  knows = λ j known. omega (arith, known, times_push j k v.known);
  more = [];
  met = sym (append-nil v.met);
}

-- an alias that is found idle, taken or given up is not known
unknown_at : (v : View) (k word : ℕ) → Found v k word → (word ≡ 0) ⊎ ((word ≡ 1) ⊎ (word ≡ 2)) → knows k v ≡ 0
unknown_at v k word found is = elim (eq-zero-or-pos (knows k v)) [
  | inl none_known ↦ none_known
  | inr known ↦ elim is [
    | inl idle ↦ absurd ((found.ready known).0 idle)
    | inr other ↦ elim other [
      | inl taken ↦ absurd ((found.ready known).1 taken)
      | inr lost ↦ absurd ((found.ready known).2 lost)
    ]
  ]
]

-- what holds of the seat after a claim or a look: by what the word says, of each view that it may be
module _ (p : PlanRecord) (v : View) (k : ℕ) where
  keeps_found :
      (idle : View) (shape : Shape) (word : ℕ) (w : View) → k < length p.entries → Keeps p v → Found v k word → word ≡ encode shape
      → w ≡ after_look v idle k word → (wins k v ≡ 0 → Keeps p idle) → Keeps p w
  keeps_found idle Unclaimed word w there keeps found says is won =
      subst (Keeps p) (sym (is ∙ ap (after_look v idle k) says)) (won (found.fresh says))
  keeps_found idle Taken word w there keeps found says is won =
      subst (Keeps p) (sym (is ∙ ap (after_look v idle k) says)) (keeps_met p v k FoundBusy keeps)
  keeps_found idle GivenUp word w there keeps found says is won =
      subst (Keeps p) (sym (is ∙ ap (after_look v idle k) says)) (keeps_met p v k FoundLost keeps)
  keeps_found idle (Finished turn cleared reads) word w there keeps found says is won =
      let more : 3 ≤ word = omega (arith, says) in
      subst (Keeps p) (sym (is ∙ not_three word idle (with_met v k FoundBusy) (with_met v k FoundLost) (with_known v k) more))
      (keeps_known p v k there (λ solo. found.alone_ready solo more) keeps)

  pub keeps_claim :
      (word : ℕ) (w : View) → k < length p.entries → Keeps p v → Found v k word → w ≡ after_look v (with_won v k) k word → Keeps p w
  keeps_claim word w there keeps found is =
      keeps_found (with_won v k) found.shape word w there keeps found found.says is (λ unwon. keeps_won p v k there unwon keeps)

  pub keeps_look :
      (word : ℕ) (w : View) → k < length p.entries → Keeps p v → Found v k word → w ≡ after_look v (with_met v k FoundIdle) k word
      → Keeps p w
  keeps_look word w there keeps found is =
      keeps_found (with_met v k FoundIdle) found.shape word w there keeps found found.says is (λ unwon. keeps_met p v k FoundIdle keeps)

module _ (id : TableId) (v : View) (k : ℕ) where
  won_adds : Adds (desk_view id v) (desk_view id (with_won v k)) (signed v.number k ∷ []) [] [] []
  won_adds = record {
    home = refl;
    number = refl;
    solo = refl;
    won = refl;
    made = sym (append-nil v.made);
    lost = sym (append-nil v.lost);
    served = sym (append-nil v.served);
    knows = λ j known. known;
    more = [];
    met = sym (append-nil v.met);
  }

  claim_at :
      (shape : Shape) (word : ℕ) (w : View) (answer : Claim) → Found v k word → word ≡ encode shape
      → w ≡ after_look v (with_won v k) k word → IsClaimAnswer shape answer → ClaimTells (desk_view id v) k answer (desk_view id w)
  claim_at Unclaimed word w answer found says is told =
      subst₂ (λ (a : Claim) (u : View). ClaimTells (desk_view id v) k a (desk_view id u)) (sym told)
      (sym (is ∙ ap (after_look v (with_won v k) k) says))
      (won_adds, found.fresh says, unknown_at v k word found (inl says))
  claim_at Taken word w answer found says is told =
      subst₂ (λ (a : Claim) (u : View). ClaimTells (desk_view id v) k a (desk_view id u)) (sym told)
      (sym (is ∙ ap (after_look v (with_won v k) k) says)) (
        met_stays id v k FoundBusy,
        (λ others. refl),
        (λ solo. found.alone_taken (solo_is v solo) says),
        unknown_at v k word found (inr (inl says)),
      )
  claim_at GivenUp word w answer found says is told =
      subst₂ (λ (a : Claim) (u : View). ClaimTells (desk_view id v) k a (desk_view id u)) (sym told)
      (sym (is ∙ ap (after_look v (with_won v k) k) says)) (
        met_stays id v k FoundLost,
        (λ others. refl),
        (λ solo. found.alone_lost (solo_is v solo) says),
        unknown_at v k word found (inr (inr says)),
      )
  claim_at (Finished turn cleared reads) word w answer found says is told =
      subst₂ (λ (a : Claim) (u : View). ClaimTells (desk_view id v) k a (desk_view id u)) (sym told)
      (sym (is ∙ not_three word (with_won v k) (with_met v k FoundBusy) (with_met v k FoundLost) (with_known v k) (omega (arith, says))))
      (known_stays id v k, omega (arith, times_push k k v.known, one_at k k refl))

  pub claim_tells :
      (word : ℕ) (w : View) (answer : Claim) → Found v k word → w ≡ after_look v (with_won v k) k word
      → ((shape : Shape) → word ≡ encode shape → IsClaimAnswer shape answer)
      → ClaimTells (desk_view id v) k answer (desk_view id w)
  claim_tells word w answer found is told = claim_at found.shape word w answer found found.says is (told found.shape found.says)

  look_at :
      (shape : Shape) (word : ℕ) (w : View) (answer : Look) → Found v k word → word ≡ encode shape
      → w ≡ after_look v (with_met v k FoundIdle) k word → IsLookAnswer shape answer → LookTells (desk_view id v) k answer (desk_view id w)
  look_at Unclaimed word w answer found says is told =
      subst₂ (λ (a : Look) (u : View). LookTells (desk_view id v) k a (desk_view id u)) (sym told)
      (sym (is ∙ ap (after_look v (with_met v k FoundIdle) k) says))
      (met_stays id v k FoundIdle, (λ others. refl), (λ solo. found.fresh says), unknown_at v k word found (inl says))
  look_at Taken word w answer found says is told =
      subst₂ (λ (a : Look) (u : View). LookTells (desk_view id v) k a (desk_view id u)) (sym told)
      (sym (is ∙ ap (after_look v (with_met v k FoundIdle) k) says)) (
        met_stays id v k FoundBusy,
        (λ others. refl),
        (λ solo. found.alone_taken (solo_is v solo) says),
        unknown_at v k word found (inr (inl says)),
      )
  look_at GivenUp word w answer found says is told =
      subst₂ (λ (a : Look) (u : View). LookTells (desk_view id v) k a (desk_view id u)) (sym told)
      (sym (is ∙ ap (after_look v (with_met v k FoundIdle) k) says)) (
        met_stays id v k FoundLost,
        (λ others. refl),
        (λ solo. found.alone_lost (solo_is v solo) says),
        unknown_at v k word found (inr (inr says)),
      )
  look_at (Finished turn cleared reads) word w answer found says is told =
      subst₂ (λ (a : Look) (u : View). LookTells (desk_view id v) k a (desk_view id u)) (sym told)
      (sym (is ∙ not_three word (with_met v k FoundIdle) (with_met v k FoundBusy) (with_met v k FoundLost) (with_known v k)
      (omega (arith, says))))
      (known_stays id v k, omega (arith, times_push k k v.known, one_at k k refl))

  pub look_tells :
      (word : ℕ) (w : View) (answer : Look) → Found v k word → w ≡ after_look v (with_met v k FoundIdle) k word
      → ((shape : Shape) → word ≡ encode shape → IsLookAnswer shape answer)
      → LookTells (desk_view id v) k answer (desk_view id w)
  look_tells word w answer found is told = look_at found.shape word w answer found found.says is (told found.shape found.says)

  pub finish_tells : FinishTells (desk_view id v) k (desk_view id (with_made v k))
  finish_tells = (
    record {
      home = refl;
      number = refl;
      solo = refl;
      won = sym (append-nil v.won);
      made = refl;
      lost = sym (append-nil v.lost);
      served = sym (append-nil v.served);
      knows = λ j known. omega (arith, known, times_push j k v.known);
      more = [];
      met = sym (append-nil v.met);
    },
    omega (arith, times_push k k v.known, one_at k k refl),
  )

  pub abandon_tells : AbandonTells (desk_view id v) k (desk_view id (with_lost v k))
  abandon_tells = record {
    home = refl;
    number = refl;
    solo = refl;
    won = sym (append-nil v.won);
    made = sym (append-nil v.made);
    lost = refl;
    served = sym (append-nil v.served);
    knows = λ j known. known;
    more = [];
    met = sym (append-nil v.met);
  }

-- ---- what a reading tells

module _ (told : Option Pictures) (p : PlanRecord) where
  -- the view of a seat after it read: as before, or it met the turn of another
  keeps_reading :
      (k : ℕ) (m : At) (r : Reading) (n : At) → Keeps p m.0 → ReadingTold told p k m r n → Keeps p n.0
  keeps_reading k m (reading.Got t) n keeps is =
      subst (λ (x : At). Keeps p x.0) (sym is.0) (keeps_given p m.0 keeps)
  keeps_reading k m reading.Turn n keeps is =
      subst (λ (x : At). Keeps p x.0) (sym is.0) (keeps_met p m.0 k FoundInTurn keeps)

  pub keeps_read :
      (k : ℕ) (m : At) (r : Result Reading Memory) (n : At) → Keeps p m.0 → ReadTold told p k m r n → Keeps p n.0
  keeps_read k m (Ok r) n keeps is = keeps_reading k m r n keeps is
  keeps_read k m (Err e) n keeps is = subst (λ (x : At). Keeps p x.0) (sym is) (keeps_given p m.0 keeps)

  pub bare_read : (k : ℕ) (m : At) (r : Result Reading Memory) (n : At) → ReadTold told p k m r n → n.1 ≡ []
  bare_read k m (Ok (reading.Got t)) n is = ap (λ (x : At). x.1) is.0
  bare_read k m (Ok reading.Turn) n is = ap (λ (x : At). x.1) is.0
  bare_read k m (Err e) n is = ap (λ (x : At). x.1) is

  -- giving a turn back leaves the seat as it was
  given_stays : (id : TableId) (v : View) → Stays (desk_view id v) (desk_view id (with_turn v None))
  given_stays id v = record {
    home = refl;
    number = refl;
    solo = refl;
    won = sym (append-nil v.won);
    made = sym (append-nil v.made);
    lost = sym (append-nil v.lost);
    served = sym (append-nil v.served);
    knows = λ j known. known;
    more = [];
    met = sym (append-nil v.met);
  }

  not_solo : (v : View) → (¬ IsSolo v) → is_solo v ≡ false
  not_solo v other = false_from_ne_true (is_solo v) (λ solo. other (solo_is v solo))

  reading_tells :
      (id : TableId) (e k : ℕ) (m : At) (r : Reading) (n : At) → k ≡ source_at p e → ReadingTold told p k m r n
      → ReadingTells told p (desk_view id m.0) e r (desk_view id n.0)
  reading_tells id e k m (reading.Got t) n source is = (
    subst (λ (x : At). Stays (desk_view id m.0) (desk_view id x.0)) (sym is.0) (given_stays id m.0),
    subst (λ (j : ℕ). HoldsTile told p j t) source is.1,
  )
  reading_tells id e k m reading.Turn n source is =
      let other = not_solo m.0 is.1 in (
        subst (λ (x : At). Stays (desk_view id m.0) (desk_view id x.0)) (sym is.0) (met_stays id m.0 k FoundInTurn),
        (λ others. ap (λ (x : At). x.0.met) is.0 ∙ ap (λ (j : ℕ). m.0.met ++ meeting j FoundInTurn ∷ []) source),
        other,
      )

  pub read_tells :
      (id : TableId) (e k : ℕ) (m : At) (r : Result Reading Memory) (n : At) → Keeps p m.0 → source_at p e ≡ k
      → ReadTold told p k m r n → ReadTells told p (desk_view id m.0) e r (desk_view id n.0)
  read_tells id e k m (Ok r) n keeps source is = reading_tells id e k m r n (sym source) is
  read_tells id e k m (Err memory) n keeps source is =
      subst (λ (x : At). Stays (desk_view id m.0) (desk_view id x.0)) (sym is) (given_stays id m.0)
