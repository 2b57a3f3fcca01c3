-- A step on one word, by one seat, leaves the parts of all other aliases, and of this one moves the sums by what its view
-- moves
use Rattle.std.proofs.Common.{◌≡◌, ◌≢◌, ◌<◌, ◌≤◌, ◌+◌, ℕ, ◌&&◌, ◌==◌, Option, List, [], length, set, get_or, refl, sym, ap, ap₂, subst, subst₂, ◌∙◌, inl, inr, arith, get_or-set_same, get_or-set_other}
use Rattle.std.proofs.lemmas.Bool.{cases_eq, cases_Bool, eqb-true}
use Rattle.std.proofs.lemmas.List.{length-set}
use mathlib.Core.Option.{some, some-injective}
use mathlib.Core.Option as slot
use lib.ListN.{get_elem?}
use Rattle.atomic_table.specs.Table.{State}
use Rattle.xs_pixel.specs.Picture.{Pictures}
use Rattle.xs_plan.specs.Record.{PlanRecord}
use Rattle.xs_plan.specs.Reads.{reads_in, readers_of}
use Rattle.xs_core.specs.Counts.{one_if}
use Rattle.xs_core.specs.States.{source_at}
use Rattle.xs_core.specs.Views.{times}
use Rattle.xs_core.proofs.CountLemmas.{how_many-alike}
use Rattle.xs_word_desk.specs.declared.view.View.{View}
use Rattle.xs_word_desk.specs.Sums.{total}
use Rattle.xs_word_desk.specs.Words.{Shape, encode, won_in, made_in, lost_in, turn_in, leaving_in, open_in}
use Rattle.xs_word_desk.specs.Seen.{wins, makes, loses, knows, fills, leaves, turns_on, serves, has_number, is_live, open_reads}
use Rattle.xs_word_desk.specs.Rule.{Slot, Home, Lies, Agrees, Part, ViewOk, SeatsOk, Holds}
use Rattle.xs_word_desk.proofs.SumLemmas.{total-set, set_here, set_else, at_set}

-- two views of a seat have the same of an alias and of its reads
pub record Alike (p : PlanRecord) (k : ℕ) (v w : View) : Type 0 where
  pub won : wins k w ≡ wins k v
  pub made : makes k w ≡ makes k v
  pub lost : loses k w ≡ loses k v
  pub known : knows k w ≡ knows k v
  pub filling : fills k w ≡ fills k v
  pub leaving : leaves k w ≡ leaves k v
  pub turn : turns_on p k w ≡ turns_on p k v
  pub served : (e : ℕ) → source_at p e ≡ k → serves e w ≡ serves e v

-- they are of one seat
pub record SameSeat (v w : View) : Type 0 where
  pub live : w.live ≡ v.live
  pub number : w.number ≡ v.number
  pub next : w.next ≡ v.next
  pub apart : w.apart ≡ v.apart
  pub joined : w.joined ≡ v.joined

-- a sum stays where its summand does
pub total-stays :
    (f : View → ℕ) (views : List View) (id : ℕ) (v w : View) → get_elem? views id ≡ some v → f w ≡ f v
    → total f (set views id w) ≡ total f views
total-stays f views id v w me same = omega (arith, total-set f views id v w me, same)

-- the open reads stay where what was served of the alias does
pub open_reads-stay :
    (p : PlanRecord) (views : List View) (id : ℕ) (v w : View) (k : ℕ) → get_elem? views id ≡ some v
    → ((e : ℕ) → source_at p e ≡ k → serves e w ≡ serves e v)
    → open_reads p (set views id w) k ≡ open_reads p views k
open_reads-stay p views id v w k me same =
    how_many-alike (reads_in p) (λ e. (source_at p e == k) && (total (serves e) (set views id w) == 0))
    (λ e. (source_at p e == k) && (total (serves e) views == 0)) (λ e less. elim (cases_Bool (source_at p e == k)) [
      | inl is ↦
          let stays = total-stays (serves e) views id v w me (same e (eqb-true (source_at p e) k is)) in
          ap (λ n. (source_at p e == k) && (n == 0)) stays
      | inr other ↦
          ap (λ b. b && (total (serves e) (set views id w) == 0)) other
          ∙ sym (ap (λ b. b && (total (serves e) views == 0)) other)
    ])

module _ (told : Option Pictures) (p : PlanRecord) where
  -- an alias of which the seat has the same
  pub agrees_stays :
      (views : List View) (id : ℕ) (v w : View) (k word : ℕ) (home : Home) (shape : Shape) → get_elem? views id ≡ some v
      → Alike p k v w → Agrees told p k word home views shape → Agrees told p k word home (set views id w) shape
  agrees_stays views id v w k word home shape me alike was = record {
    says = was.says;
    won = total-stays (wins k) views id v w me alike.won ∙ was.won;
    made = total-stays (makes k) views id v w me alike.made ∙ was.made;
    lost = total-stays (loses k) views id v w me alike.lost ∙ was.lost;
    turn = total-stays (turns_on p k) views id v w me alike.turn ∙ was.turn;
    leaving = total-stays (leaves k) views id v w me alike.leaving ∙ was.leaving;
    counted = open_reads-stay p views id v w k me alike.served ∙ was.counted;
    known = λ some. was.known (omega (arith, some, total-stays (knows k) views id v w me alike.known));
    lies = subst (λ (n : ℕ). Lies told p k home n shape) (sym (total-stays (fills k) views id v w me alike.filling)) was.lies;
  }

  pub part_stays :
      (views : List View) (id : ℕ) (v w : View) (k word : ℕ) (home : Home) → get_elem? views id ≡ some v
      → Alike p k v w → Part told p k word home views → Part told p k word home (set views id w)
  part_stays views id v w k word home me alike part = record {
    shape = part.shape;
    agrees = agrees_stays views id v w k word home part.shape me alike part.agrees;
  }

  -- the alias itself: each sum moves as the view does, and so does what the word says
  pub record Moves (k : ℕ) (v w : View) (was now : Shape) : Type 0 where
    pub won : wins k w + won_in was ≡ wins k v + won_in now
    pub made : makes k w + made_in was ≡ makes k v + made_in now
    pub lost : loses k w + lost_in was ≡ loses k v + lost_in now
    pub turn : turns_on p k w + turn_in was ≡ turns_on p k v + turn_in now
    pub leaving : leaves k w + leaving_in was ≡ leaves k v + leaving_in now

  pub part_moves :
      (views : List View) (id : ℕ) (v w : View) (k word next_word : ℕ) (home next_home : Home) (shape now : Shape)
      → get_elem? views id ≡ some v → Agrees told p k word home views shape
      → next_word ≡ encode now → Moves k v w shape now
      → open_reads p (set views id w) k ≡ open_in (readers_of p k) now
      → (0 < total (knows k) (set views id w) → made_in now ≡ 1)
      → Lies told p k next_home (total (fills k) (set views id w)) now
      → Part told p k next_word next_home (set views id w)
  part_moves views id v w k word next_word home next_home shape now me was says moves counted known lies = record {
    shape = now;
    agrees = record {
      says = says;
      won = omega (arith, total-set (wins k) views id v w me, was.won, moves.won);
      made = omega (arith, total-set (makes k) views id v w me, was.made, moves.made);
      lost = omega (arith, total-set (loses k) views id v w me, was.lost, moves.lost);
      turn = omega (arith, total-set (turns_on p k) views id v w me, was.turn, moves.turn);
      leaving = omega (arith, total-set (leaves k) views id v w me, was.leaving, moves.leaving);
      counted = counted;
      known = known;
      lies = lies;
    };
  }

  -- the seats stay
  pub seats_stay :
      (views : List View) (id : ℕ) (v w : View) → get_elem? views id ≡ some v → SameSeat v w
      → SeatsOk views → SeatsOk (set views id w)
  seats_stay views id v w me same seats = record {
    chief = chief_now.0;
    first = chief_now.1;
    chief_live = chief_now.2 ∙ seats.chief_live;
    chief_number = chief_now.3 ∙ seats.chief_number;
    many = total-stays is_live views id v w me (ap one_if same.live) ∙ seats.many ∙ ap (λ l. 1 + length l) (sym chief_now.5);
    numbers = λ n. total-stays (has_number n) views id v w me (ap₂ (λ a b. one_if (a && (b == n))) same.live same.number)
        ∙ seats.numbers n ∙ ap (λ l. one_if (n == 0) + times n l) (sym chief_now.5);
    fresh = λ n. subst₂ (λ (l : List ℕ) (m : ℕ). 0 < times n l → n < m) (sym chief_now.5) (sym chief_now.4) (seats.fresh n);
    once = λ n. subst (λ (l : List ℕ). times n l ≤ 1) (sym chief_now.5) (seats.once n);
    positive = subst₂ (λ (l : List ℕ) (m : ℕ). (times 0 l ≡ 0) × (0 < m)) (sym chief_now.5) (sym chief_now.4) seats.positive;
    counted = omega (arith, seats.counted, ap (λ (l : List ℕ). length l) chief_now.5, chief_now.6, chief_now.4);
    others = λ j u at differ. elim (at_set views id j w u at) [
      | inl here ↦
          let before = seats.others id v me (λ zero. differ (here.0 ∙ zero)) in
          let apart = subst (λ (x : View). x.apart ≡ []) here.1 (same.apart ∙ before.0) in (
            apart,
            λ live is_zero.
                before.1 (sym same.live ∙ ap (λ (x : View). x.live) here.1 ∙ live)
                (sym same.number ∙ ap (λ (x : View). x.number) here.1 ∙ is_zero),
          )
      | inr there ↦ seats.others j u there.1 differ
    ];
  }
    where
      chief_now :
          (c : View) × (get_elem? (set views id w) 0 ≡ some c) × (c.live ≡ seats.chief.live) × (c.number ≡ seats.chief.number)
          × (c.next ≡ seats.chief.next) × (c.apart ≡ seats.chief.apart) × (c.joined ≡ seats.chief.joined)
      chief_now = elim (cases_eq 0 id) [
        | inl is ↦
            let it : v ≡ seats.chief = some-injective v seats.chief (sym me ∙ ap (get_elem? views) (sym is) ∙ seats.first) in (
              w,
              ap (get_elem? (set views id w)) is ∙ set_here views id v w me,
              same.live ∙ ap (λ (x : View). x.live) it,
              same.number ∙ ap (λ (x : View). x.number) it,
              same.next ∙ ap (λ (x : View). x.next) it,
              same.apart ∙ ap (λ (x : View). x.apart) it,
              same.joined ∙ ap (λ (x : View). x.joined) it,
            )
        | inr differ ↦ (seats.chief, set_else views id 0 w differ ∙ seats.first, refl, refl, refl, refl, refl)
      ]

  -- the state after a step on word k by the seat id
  abbrev pub after : State Slot View → ℕ → ℕ → ℕ → View → List (slot.Option Slot) → State Slot View
  after s k word id w homes = record { words = set s.words k word; homes = homes; views = set s.views id w }

  -- the homes of all other aliases stay
  pub record OthersAtHome (k : ℕ) (was now : List (slot.Option Slot)) : Type 0 where
    pub many : length now ≡ length was
    pub stay : (j : ℕ) → j ≢ k → get_elem? now j ≡ get_elem? was j

  pub steps :
      (s : State Slot View) (k word id : ℕ) (v w : View) (homes : List (slot.Option Slot))
      → Holds told p s → get_elem? s.views id ≡ some v → k < length p.entries → OthersAtHome k s.homes homes
      → ((j : ℕ) → j ≢ k → Alike p j v w) → ViewOk p w → SameSeat v w
      → Part told p k word (get_elem? homes k) (set s.views id w)
      → Holds told p (after s k word id w homes)
  steps s k word id v w homes holds me there rest alike ok same part = record {
    plan = holds.plan;
    wide = length-set s.words k word ∙ holds.wide;
    deep = rest.many ∙ holds.deep;
    parts = λ j less. elim (cases_eq j k) [
      | inl is ↦
          let here : get_or (set s.words k word) k 0 ≡ word = get_or-set_same s.words k word 0 (omega (arith, holds.wide)) in
          subst (λ (i : ℕ). Part told p i (get_or (set s.words k word) i 0) (get_elem? homes i) (set s.views id w)) (sym is)
          (subst (λ (n : ℕ). Part told p k n (get_elem? homes k) (set s.views id w)) (sym here) part)
      | inr differ ↦
          let word_is : get_or (set s.words k word) j 0 ≡ get_or s.words j 0 = get_or-set_other s.words k j word 0 differ in
          subst₂ (λ (n : ℕ) (h : Home). Part told p j n h (set s.views id w)) (sym word_is) (sym (rest.stay j differ))
          (part_stays s.views id v w j (get_or s.words j 0) (get_elem? s.homes j) me (alike j differ) (holds.parts j less))
    ];
    views = λ i u at. elim (at_set s.views id i w u at) [
      | inl here ↦ subst (ViewOk p) here.1 ok
      | inr before ↦ holds.views i u before.1
    ];
    seats = seats_stay s.views id v w me same holds.seats;
  }
