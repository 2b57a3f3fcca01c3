-- What a step makes of each list of the state shown
use Rattle.std.proofs.Common.{◌≡◌, ◌≢◌, ◌<◌, ◌≤◌, ◌+◌, ◌*◌, ◌/◌, ℕ, zero, suc, Bool, true, false, ◌&&◌, ◌==◌, cond, Option, Some, None, List, [], ◌∷◌, ◌++◌, length, get_or, set, refl, sym, ap, ap₂, ◌∙◌, inl, inr, arith, get_or-set_same, get_or-set_other, eq-eqb, ne_eqb}
use Rattle.std.proofs.lemmas.Bool.{cases_eq, and_from}
use Rattle.std.proofs.lemmas.List.Sums.{sum_by_push, sum_by-append, sum_by-cons}
use mathlib.Core.Option.{some}
use lib.ListN.{get_elem?}
use Rattle.atomic_table.specs.Table.{State}
use Rattle.xs_plan.specs.Record.{PlanRecord}
use Rattle.xs_plan.specs.Reads.{reads_in}
use Rattle.xs_core.specs.declared.state.Phase.{Phase}
use Rattle.xs_core.specs.declared.state.Phase.TheVariants.{Idle, Ready}
use Rattle.xs_core.specs.declared.state.ReadState.{ReadState}
use Rattle.xs_core.specs.declared.state.ReadState.TheVariants.{Waiting}
use Rattle.xs_core.specs.declared.state.TileState.{TileState}
use Rattle.xs_core.specs.declared.state.TileState.TheVariants.{Absent, Held}
use Rattle.xs_core.specs.Counts.{one_if}
use Rattle.xs_core.specs.States.{phase_of, read_of, tile_of, is_open, is_in_turn, source_at, left, turns}
use Rattle.xs_core.specs.Kept.{world}
use Rattle.xs_core.specs.Views.{Signed, signed, entries, under}
use Rattle.xs_core.proofs.CountLemmas.{how_many-alike, how_many-none}
use Rattle.xs_word_desk.specs.declared.view.View.{View}
use Rattle.xs_word_desk.specs.Sums.{total}
use Rattle.xs_word_desk.specs.Seen.{leaves, serves, turns as turns_of, turns_on, is_this, is_read_of, open_reads}
use Rattle.xs_word_desk.specs.Rule.{Slot}
use Rattle.xs_word_desk.specs.Shown.{each_below, number_sum, winner, turner, leaver, phase_shown, read_shown, tile_shown, phase_at, read_at, tile_at, shown}
use Rattle.xs_word_desk.proofs.SumLemmas.{total-zero, term_le, one_if-cond}
use Rattle.xs_word_desk.proofs.ViewLemmas.{one_at, none_at}
use Rattle.xs_word_desk.proofs.OwnLemmas.{under_le}
use Rattle.xs_word_desk.proofs.FrameLemmas.{total-stays}

-- ---- what a function gives for each number below a bound

module _ {A : Type 0} where
  pub length-below : (n : ℕ) (f : ℕ → A) → length (each_below n f) ≡ n
  length-below zero f = refl
  length-below (suc n) f = ap suc (length-below n (λ i. f (suc i)))

  pub below_at : (n k : ℕ) (f : ℕ → A) (d : A) → k < n → get_or (each_below n f) k d ≡ f k
  below_at zero k f d less = absurd (omega arith)
  below_at (suc n) zero f d less = refl
  below_at (suc n) (suc k) f d less = below_at n k (λ i. f (suc i)) d (omega arith)

  pub below-alike :
      (n : ℕ) (f g : ℕ → A) → ((i : ℕ) → i < n → f i ≡ g i) → each_below n f ≡ each_below n g
  below-alike zero f g alike = refl
  below-alike (suc n) f g alike =
      ap₂ (λ x xs. x ∷ xs) (alike 0 (omega arith))
      (below-alike n (λ i. f (suc i)) (λ i. g (suc i)) (λ i less. alike (suc i) (omega arith)))

  -- one of them changes
  pub below-set :
      (n k : ℕ) (f g : ℕ → A) (x : A) → k < n → g k ≡ x → ((i : ℕ) → i ≢ k → g i ≡ f i)
      → each_below n g ≡ set (each_below n f) k x
  below-set zero k f g x less here others = absurd (omega arith)
  below-set (suc n) zero f g x less here others =
      ap₂ (λ y ys. y ∷ ys) here
      (below-alike n (λ i. g (suc i)) (λ i. f (suc i)) (λ i within. others (suc i) (omega arith)))
  below-set (suc n) (suc k) f g x less here others =
      ap₂ (λ y ys. y ∷ ys) (others 0 (omega arith))
      (below-set n k (λ i. f (suc i)) (λ i. g (suc i)) x (omega arith) here
      (λ i differ. others (suc i) (λ is. differ (omega (arith, is)))))

pub world_is :
    (a b : List Phase) (c d : List ReadState) (e f : List TileState) → a ≡ b → c ≡ d → e ≡ f → world a c e ≡ world b d f
world_is a b c d e f phases reads tiles =
    ap (λ x. world x c e) phases ∙ ap (λ x. world b x e) reads ∙ ap (λ x. world b d x) tiles

-- ---- the numbers of entries

pub numbers_push :
    (k number item : ℕ) (l : List Signed)
    → number_sum k (l ++ signed number item ∷ []) ≡ number_sum k l + cond (item == k) number 0
numbers_push k number item l = sum_by_push (λ (s : Signed). cond {A = ℕ} (s.item == k) s.number 0) l (signed number item)

pub numbers_append : (k : ℕ) (l m : List Signed) → number_sum k (l ++ m) ≡ number_sum k l + number_sum k m
numbers_append k l m = sum_by-append (λ (s : Signed). cond {A = ℕ} (s.item == k) s.number 0) l m

numbers_cons :
    (k : ℕ) (s : Signed) (l : List Signed) → number_sum k (s ∷ l) ≡ cond (s.item == k) s.number 0 + number_sum k l
numbers_cons k s l = sum_by-cons (λ (x : Signed). cond {A = ℕ} (x.item == k) x.number 0) s l

entries_cons : (k : ℕ) (s : Signed) (l : List Signed) → entries k (s ∷ l) ≡ one_if (s.item == k) + entries k l
entries_cons k s l =
    sum_by-cons (λ (x : Signed). cond {A = ℕ} (x.item == k) 1 0) s l ∙ ap (λ n. n + entries k l) (one_if-cond (s.item == k))

under_cons :
    (n k : ℕ) (s : Signed) (l : List Signed)
    → under n k (s ∷ l) ≡ one_if ((s.number == n) && (s.item == k)) + under n k l
under_cons n k s l =
    sum_by-cons (λ (x : Signed). cond {A = ℕ} ((x.number == n) && (x.item == k)) 1 0) s l
    ∙ ap (λ m. m + under n k l) (one_if-cond ((s.number == n) && (s.item == k)))

-- entries of another item
pub numbers_other :
    (k number item : ℕ) (l : List Signed) → (item ≡ k → ⊥) → number_sum k (l ++ signed number item ∷ []) ≡ number_sum k l
numbers_other k number item l differ =
    let none : cond (item == k) number 0 ≡ 0 = ap (λ b. cond b number 0) (ne_eqb item k differ) in
    omega (arith, numbers_push k number item l, none)

-- an alias that is not entered
pub numbers_none : (k : ℕ) (l : List Signed) → entries k l ≡ 0 → number_sum k l ≡ 0
numbers_none k [] none = refl
numbers_none k (s ∷ l) none = elim (cases_eq s.item k) [
  | inl same ↦ absurd (omega (arith, none, entries_cons k s l, one_at s.item k same))
  | inr differ ↦
      let rest = numbers_none k l (omega (arith, none, entries_cons k s l)) in
      let here : cond (s.item == k) s.number 0 ≡ 0 = ap (λ b. cond b s.number 0) (ne_eqb s.item k differ) in
      omega (arith, numbers_cons k s l, here, rest)
]

-- an entry is under some number
pub under_some : (k : ℕ) (l : List Signed) → 0 < entries k l → (n : ℕ) × (0 < under n k l)
under_some k [] there_is = absurd (omega arith)
under_some k (s ∷ l) there_is = elim (cases_eq s.item k) [
  | inl same ↦
      let its : one_if ((s.number == s.number) && (s.item == k)) ≡ 1 =
      ap one_if (and_from (s.number == s.number) (s.item == k) (eq-eqb s.number s.number refl) (eq-eqb s.item k same)) in
      (s.number, omega (arith, under_cons s.number k s l, its))
  | inr differ ↦
      let later = under_some k l (omega (arith, there_is, entries_cons k s l, none_at s.item k differ)) in
      (later.0, omega (arith, later.1, under_cons later.0 k s l))
]

-- one that is entered once, under a number
pub numbers_one : (n k : ℕ) (l : List Signed) → entries k l ≤ 1 → 0 < under n k l → number_sum k l ≡ n
numbers_one n k [] most there_is = absurd (omega arith)
numbers_one n k (s ∷ l) most there_is = elim (cases_eq s.item k) [
  | inl same ↦
      let none : entries k l ≡ 0 = omega (arith, most, entries_cons k s l, one_at s.item k same) in
      let here : cond (s.item == k) s.number 0 ≡ s.number = ap (λ b. cond b s.number 0) (eq-eqb s.item k same) in
      let rest = numbers_none k l none in
      let few = under_le n k l in
      elim (cases_eq s.number n) [
        | inl its ↦ omega (arith, numbers_cons k s l, here, rest, its)
        | inr other ↦
            let no_such : one_if ((s.number == n) && (s.item == k)) ≡ 0 =
            ap (λ b. one_if (b && (s.item == k))) (ne_eqb s.number n other) in
            absurd (omega (arith, there_is, under_cons n k s l, no_such, few, none))
      ]
  | inr differ ↦
      let before : one_if ((s.number == n) && (s.item == k)) ≡ 0 = second (s.number == n) (s.item == k) (ne_eqb s.item k differ) in
      let rest = numbers_one n k l (omega (arith, most, entries_cons k s l)) (omega (arith, there_is, under_cons n k s l, before)) in
      let here : cond (s.item == k) s.number 0 ≡ 0 = ap (λ b. cond b s.number 0) (ne_eqb s.item k differ) in
      omega (arith, numbers_cons k s l, here, rest)
]
  where
    second : (a b : Bool) → b ≡ false → one_if (a && b) ≡ 0
    second true b is = ap one_if is
    second false b is = refl

-- ---- values

pub finished_phase : (word seat : ℕ) → 3 ≤ word → phase_shown word seat ≡ Ready seat
finished_phase zero seat more = absurd (omega arith)
finished_phase (suc zero) seat more = absurd (omega arith)
finished_phase (suc (suc zero)) seat more = absurd (omega arith)
finished_phase (suc (suc (suc n))) seat more = refl

pub held_tile : (seat open_ones : ℕ) → 0 < open_ones → tile_shown 0 seat open_ones ≡ Held
held_tile seat zero some_open = absurd (omega arith)
held_tile seat (suc n) some_open = refl

pub open_shown : (served in_turn seat : ℕ) → is_open (read_shown served in_turn seat) ≡ (served == 0)
open_shown zero zero seat = refl
open_shown zero (suc n) seat = refl
open_shown (suc n) in_turn seat = sym (ne_eqb (suc n) 0 (λ is. omega arith))

-- ---- the frame: a step by a seat on the word of an alias

module _ (p : PlanRecord) (s : State Slot View) (id k word : ℕ) (v w : View) (me : get_elem? s.views id ≡ some v) where
  pub winner-stays : (j : ℕ) → number_sum j w.won ≡ number_sum j v.won → winner (set s.views id w) j ≡ winner s.views j
  winner-stays j same = total-stays (λ u. number_sum j u.won) s.views id v w me same

  pub leaver-stays : (j : ℕ) → leaves j w ≡ leaves j v → w.number ≡ v.number → leaver (set s.views id w) j ≡ leaver s.views j
  leaver-stays j same number = total-stays (λ u. leaves j u * u.number) s.views id v w me (ap₂ (λ a b. a * b) same number)

  phase_else :
      (j : ℕ) → j ≢ k → number_sum j w.won ≡ number_sum j v.won
      → phase_at (set s.words k word) (set s.views id w) j ≡ phase_at s.words s.views j
  phase_else j differ same = ap₂ phase_shown (get_or-set_other s.words k j word 0 differ) (winner-stays j same)

  tile_else :
      (j : ℕ) → j ≢ k → leaves j w ≡ leaves j v → w.number ≡ v.number
      → tile_at (set s.words k word) (set s.views id w) j ≡ tile_at s.words s.views j
  tile_else j differ same number =
      ap₂ (λ a b. tile_shown a b (get_or (set s.words k word) j 0 / 16)) (total-stays (leaves j) s.views id v w me same)
      (leaver-stays j same number)
      ∙ ap (λ n. tile_shown (total (leaves j) s.views) (leaver s.views j) (n / 16)) (get_or-set_other s.words k j word 0 differ)

  read_else :
      (e : ℕ) → serves e w ≡ serves e v → turns_of e w ≡ turns_of e v → w.number ≡ v.number
      → read_at (set s.views id w) e ≡ read_at s.views e
  read_else e served in_turn number =
      ap₂ (λ a b. read_shown a b (turner (set s.views id w) e)) (total-stays (serves e) s.views id v w me served)
      (total-stays (turns_of e) s.views id v w me in_turn)
      ∙ ap (read_shown (total (serves e) s.views) (total (turns_of e) s.views))
      (total-stays (λ u. turns_of e u * u.number) s.views id v w me (ap₂ (λ a b. a * b) in_turn number))

  -- the phase of the alias becomes another
  pub phases_become :
      (x : Phase) → k < length p.entries → length s.words ≡ length p.entries
      → ((j : ℕ) → j ≢ k → number_sum j w.won ≡ number_sum j v.won) → phase_shown word (winner (set s.views id w) k) ≡ x
      → each_below (length p.entries) (phase_at (set s.words k word) (set s.views id w))
      ≡ set (each_below (length p.entries) (phase_at s.words s.views)) k x
  phases_become x there wide others here =
      below-set (length p.entries) k (phase_at s.words s.views) (phase_at (set s.words k word) (set s.views id w)) x there
      (ap (λ n. phase_shown n (winner (set s.views id w) k)) (get_or-set_same s.words k word 0 (omega (arith, there, wide))) ∙ here)
      (λ j differ. phase_else j differ (others j differ))

  -- or stays
  pub phases_stay :
      k < length p.entries → length s.words ≡ length p.entries → ((j : ℕ) → number_sum j w.won ≡ number_sum j v.won)
      → phase_shown word (winner s.views k) ≡ phase_at s.words s.views k
      → each_below (length p.entries) (phase_at (set s.words k word) (set s.views id w))
      ≡ each_below (length p.entries) (phase_at s.words s.views)
  phases_stay there wide others here =
      below-alike (length p.entries) (phase_at (set s.words k word) (set s.views id w)) (phase_at s.words s.views)
      (λ j less. elim (cases_eq j k) [
        | inl same ↦
            ap (phase_at (set s.words k word) (set s.views id w)) same
            ∙ ap₂ phase_shown (get_or-set_same s.words k word 0 (omega (arith, there, wide))) (winner-stays k (others k)) ∙ here
            ∙ ap (phase_at s.words s.views) (sym same)
        | inr differ ↦ phase_else j differ (others j)
      ])

  pub tiles_become :
      (x : TileState) → k < length p.entries → length s.words ≡ length p.entries → w.number ≡ v.number
      → ((j : ℕ) → j ≢ k → leaves j w ≡ leaves j v)
      → tile_shown (total (leaves k) (set s.views id w)) (leaver (set s.views id w) k) (word / 16) ≡ x
      → each_below (length p.entries) (tile_at (set s.words k word) (set s.views id w))
      ≡ set (each_below (length p.entries) (tile_at s.words s.views)) k x
  tiles_become x there wide number others here =
      below-set (length p.entries) k (tile_at s.words s.views) (tile_at (set s.words k word) (set s.views id w)) x there
      (ap (λ n. tile_shown (total (leaves k) (set s.views id w)) (leaver (set s.views id w) k) (n / 16))
      (get_or-set_same s.words k word 0 (omega (arith, there, wide))) ∙ here)
      (λ j differ. tile_else j differ (others j differ) number)

  pub tiles_stay :
      k < length p.entries → length s.words ≡ length p.entries → w.number ≡ v.number
      → ((j : ℕ) → leaves j w ≡ leaves j v)
      → tile_shown (total (leaves k) s.views) (leaver s.views k) (word / 16) ≡ tile_at s.words s.views k
      → each_below (length p.entries) (tile_at (set s.words k word) (set s.views id w))
      ≡ each_below (length p.entries) (tile_at s.words s.views)
  tiles_stay there wide number others here =
      below-alike (length p.entries) (tile_at (set s.words k word) (set s.views id w)) (tile_at s.words s.views)
      (λ j less. elim (cases_eq j k) [
        | inl same ↦
            ap (tile_at (set s.words k word) (set s.views id w)) same
            ∙ ap (λ n. tile_shown (total (leaves k) (set s.views id w)) (leaver (set s.views id w) k) (n / 16))
            (get_or-set_same s.words k word 0 (omega (arith, there, wide)))
            ∙ ap₂ (λ a b. tile_shown a b (word / 16)) (total-stays (leaves k) s.views id v w me (others k))
            (leaver-stays k (others k) number)
            ∙ here ∙ ap (tile_at s.words s.views) (sym same)
        | inr differ ↦ tile_else j differ (others j) number
      ])

  pub reads_become :
      (e : ℕ) (x : ReadState) → e < reads_in p → w.number ≡ v.number
      → ((i : ℕ) → i ≢ e → (serves i w ≡ serves i v) × (turns_of i w ≡ turns_of i v)) → read_at (set s.views id w) e ≡ x
      → each_below (reads_in p) (read_at (set s.views id w)) ≡ set (each_below (reads_in p) (read_at s.views)) e x
  reads_become e x within number others here =
      below-set (reads_in p) e (read_at s.views) (read_at (set s.views id w)) x within here
      (λ i differ. read_else i (others i differ).0 (others i differ).1 number)

  pub reads_stay :
      w.number ≡ v.number → ((e : ℕ) → (serves e w ≡ serves e v) × (turns_of e w ≡ turns_of e v))
      → each_below (reads_in p) (read_at (set s.views id w)) ≡ each_below (reads_in p) (read_at s.views)
  reads_stay number others =
      below-alike (reads_in p) (read_at (set s.views id w)) (read_at s.views)
      (λ e less. read_else e (others e).0 (others e).1 number)

-- ---- what the state shown says

pub phase_is :
    (p : PlanRecord) (s : State Slot View) (k : ℕ) → k < length p.entries
    → phase_of (shown p s) k ≡ phase_at s.words s.views k
phase_is p s k there = below_at (length p.entries) k (phase_at s.words s.views) Idle there

pub read_is :
    (p : PlanRecord) (s : State Slot View) (e : ℕ) → e < reads_in p → read_of (shown p s) e ≡ read_at s.views e
read_is p s e within = below_at (reads_in p) e (read_at s.views) Waiting within

pub tile_is :
    (p : PlanRecord) (s : State Slot View) (k : ℕ) → k < length p.entries
    → tile_of (shown p s) k ≡ tile_at s.words s.views k
tile_is p s k there = below_at (length p.entries) k (tile_at s.words s.views) Absent there

-- the open reads are those that no view has served
pub left_shown : (p : PlanRecord) (s : State Slot View) (k : ℕ) → left p (shown p s) k ≡ open_reads p s.views k
left_shown p s k =
    how_many-alike (reads_in p) (λ e. (source_at p e == k) && is_open (read_of (shown p s) e))
    (λ e. (source_at p e == k) && (total (serves e) s.views == 0))
    (λ e less. ap (λ b. (source_at p e == k) && b) (ap is_open (read_is p s e less)
    ∙ open_shown (total (serves e) s.views) (total (turns_of e) s.views) (turner s.views e)))

-- where no view has a read of the alias in turn, none is
pub none_in_turn :
    (p : PlanRecord) (s : State Slot View) (k : ℕ) → total (turns_on p k) s.views ≡ 0 → turns p (shown p s) k ≡ 0
none_in_turn p s k none =
    how_many-none (reads_in p) (λ e. (source_at p e == k) && is_in_turn (read_of (shown p s) e))
    (λ e less. elim (cases_eq (source_at p e) k) [
      | inl same ↦
          let idle = total-zero (turns_of e) s.views (λ j u at. omega (arith, turn_le e u.turn same, term_le (turns_on p k) s.views j u at, none)) in
          second (source_at p e == k) (is_in_turn (read_of (shown p s) e))
          (ap is_in_turn (read_is p s e less ∙ ap (λ n. read_shown (total (serves e) s.views) n (turner s.views e)) idle)
          ∙ not_in_turn (total (serves e) s.views) (turner s.views e))
      | inr differ ↦ ap (λ b. b && is_in_turn (read_of (shown p s) e)) (ne_eqb (source_at p e) k differ)
    ])
  where
    second : (a b : Bool) → b ≡ false → (a && b) ≡ false
    second true b is = is
    second false b is = refl

    not_in_turn : (served seat : ℕ) → is_in_turn (read_shown served 0 seat) ≡ false
    not_in_turn zero seat = refl
    not_in_turn (suc n) seat = refl

    turn_le : (e : ℕ) (turn : Option ℕ) → source_at p e ≡ k → is_this e turn ≤ is_read_of p k turn
    turn_le e None same = omega arith
    turn_le e (Some f) same = elim (cases_eq f e) [
      | inl is ↦ omega (arith, one_at f e is, one_at (source_at p f) k (ap (source_at p) is ∙ same))
      | inr other ↦ omega (arith, none_at f e other)
    ]
