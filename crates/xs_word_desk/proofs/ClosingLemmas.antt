-- The slots that a chief leaves who is alone have the tiles that its lists tell
use Rattle.std.proofs.Common.{◌≡◌, ℕ, zero, suc, true, false, ◌&&◌, ltb, lt-ltb, Option, Some, None, is_some, List, [], ◌∷◌, length, get_or, ◌+◌, refl, sym, ap, ap₂, ◌∙◌, arith}
use mathlib.Core.Option.{some, some-injective, some-ne-none}
use lib.ListN.{get_elem?}
use Rattle.atomic_table.specs.Table.{State}
use Rattle.atomic_table.specs.Seated.{TableId}
use Rattle.xs_pixel.specs.Picture.{Pictures}
use Rattle.xs_plan.specs.Record.{PlanRecord}
use Rattle.xs_plan.specs.Reads.{readers_of}
use Rattle.xs_core.specs.Views.{is_held, lacking, held_count}
use Rattle.xs_core.proofs.CountLemmas.{how_many-alike}
use Rattle.xs_core.specs.Counts.{one_if, how_many}
use Rattle.xs_word_desk.specs.declared.view.View.{View}
use Rattle.xs_word_desk.specs.Words.{Shape, Unclaimed, Taken, GivenUp, Finished, made_in, open_in}
use Rattle.xs_word_desk.specs.Seen.{makes, fills, leaves, turns_on, is_this, is_read_of}
use Rattle.xs_word_desk.specs.Rule.{Slot, Agrees, Holds}
use Rattle.xs_word_desk.specs.Changes.{AtRest}
use Rattle.xs_word_desk.specs.Plays.{IsSolo}
use Rattle.xs_word_desk.specs.Desks.{desk_view}
use Rattle.xs_word_desk.specs.Slots.{tiles_below}
use Rattle.xs_word_desk.proofs.ClaimSteps.{alone_sum}
use Rattle.xs_word_desk.proofs.ReadSteps.{alone_open, gone_turn}

-- the value in a place that is there
pub at_place : {A : Type 0} → (l : List A) (k : ℕ) (d x : A) → get_elem? l k ≡ some x → get_or l k d ≡ x
at_place [] k d x at = absurd (some-ne-none x (sym at))
at_place (y ∷ l) zero d x at = some-injective y x at
at_place (y ∷ l) (suc k) d x at = at_place l k d x at

-- one place more
pub tiles_more : (n : ℕ) (slots : List Slot) → tiles_below (suc n) slots ≡ tiles_below n slots + one_if (is_some (get_or slots n None))
unfolding how_many
tiles_more n slots = refl

module _ (told : Option Pictures) (p : PlanRecord) where
  module _ (s : State Slot View) (id k : ℕ) (v : View) (slots : List Slot) where
    -- a slot at home has its value
    abbrev Left : Type 0
    Left = (value : Slot) → get_elem? s.homes k ≡ some (some value) → get_elem? slots k ≡ some value

    has : (value : Slot) → Left → get_elem? s.homes k ≡ some (some value) → is_some (get_or slots k None) ≡ is_some value
    has value left home = ap (λ (x : Slot). is_some x) (at_place slots k None value (left value home))

    slot_at :
        (word : ℕ) (shape : Shape) → Holds told p s → get_elem? s.views id ≡ some v → IsSolo v → AtRest v
        → Agrees told p k word (get_elem? s.homes k) s.views shape → Left
        → is_some (get_or slots k None) ≡ (ltb 0 (made_in shape) && ltb 0 (open_in (readers_of p k) shape))
    slot_at word Unclaimed holds me solo rests was left = has None left was.lies.1
    slot_at word Taken holds me solo rests was left =
        let alone = alone_sum told p s id v (fills k) holds me solo (λ u ok joined. omega (arith, ok.gone joined k, ok.backed k)) in
        let none_mine : fills k v ≡ 0 = ap (is_this k) rests.filling in
        has None left (was.lies.1 (alone ∙ none_mine))
    slot_at word GivenUp holds me solo rests was left = has None left was.lies.1
    slot_at word (Finished true cleared reads) holds me solo rests was left =
        let alone = alone_sum told p s id v (turns_on p k) holds me solo (λ u ok joined. gone_turn told p k u ok joined u.turn refl) in
        let none_mine : turns_on p k v ≡ 0 = ap (is_read_of p k) rests.turn in
        absurd (omega (arith, alone, none_mine, was.turn))
    slot_at word (Finished false true reads) holds me solo rests was left =
        has None left was.lies.1.0 ∙ sym (ap (λ n. ltb 0 n) was.lies.1.1)
    slot_at word (Finished false false zero) holds me solo rests was left =
        let alone = alone_sum told p s id v (leaves k) holds me solo (λ u ok joined. omega (arith, ok.gone joined k)) in
        let none_mine : leaves k v ≡ 0 = ap (is_this k) rests.leaving in
        absurd (omega (arith, alone, none_mine, was.leaving))
    slot_at word (Finished false false (suc reads)) holds me solo rests was left =
        has (Some was.lies.1.0) left was.lies.1.1 ∙ sym (lt-ltb 0 (suc reads) (omega arith))

    held_at :
        (word : ℕ) (table : TableId) (shape : Shape) → Holds told p s → get_elem? s.views id ≡ some v → IsSolo v
        → Agrees told p k word (get_elem? s.homes k) s.views shape
        → is_held p (desk_view table v) k ≡ (ltb 0 (made_in shape) && ltb 0 (open_in (readers_of p k) shape))
    held_at word table shape holds me solo was =
        let made : makes k v ≡ made_in shape =
        sym (alone_sum told p s id v (makes k) holds me solo (λ u ok joined. omega (arith, ok.gone joined k, ok.backed k))) ∙ was.made in
        let open_ones : lacking p v.served k ≡ open_in (readers_of p k) shape =
        sym (alone_open told p s id k v holds me solo) ∙ was.counted in
        ap₂ (λ a b. ltb 0 a && ltb 0 b) made open_ones

  pub closes :
      (s : State Slot View) (table : TableId) (id : ℕ) (v : View) (slots : List Slot) → Holds told p s
      → get_elem? s.views id ≡ some v → IsSolo v → AtRest v → length s.homes ≡ length slots
      → ((k : ℕ) (value : Slot) → get_elem? s.homes k ≡ some (some value) → get_elem? slots k ≡ some value)
      → tiles_below (length slots) slots ≡ held_count p (desk_view table v)
  closes s table id v slots holds me solo rests many left =
      ap (λ n. tiles_below n slots) (sym many ∙ holds.deep)
      ∙ how_many-alike (length p.entries) (λ k. is_some (get_or slots k None)) (is_held p (desk_view table v)) (λ k less.
      let part = holds.parts k less in
      slot_at s id k v slots (get_or s.words k 0) part.shape holds me solo rests part.agrees (left k)
      ∙ sym (held_at s id k v slots (get_or s.words k 0) table part.shape holds me solo part.agrees))
