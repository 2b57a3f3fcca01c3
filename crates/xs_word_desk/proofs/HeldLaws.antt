-- A chief that is alone tells from its lists how many tiles are held
use Rattle.std.proofs.Common.{◌≡◌, ◌<◌, ◌/◌, ◌&&◌, ℕ, zero, suc, true, false, ltb, lt-ltb, Option, length, refl, sym, ap, ap₂, ◌∙◌, arith}
use mathlib.Core.Option.{some}
use lib.ListN.{get_elem?}
use Rattle.atomic_table.specs.Table.{State}
use Rattle.atomic_table.specs.Seated.{TableId}
use Rattle.xs_pixel.specs.Picture.{Pictures}
use Rattle.xs_plan.specs.Record.{PlanRecord}
use Rattle.xs_plan.specs.Reads.{readers_of}
use Rattle.xs_core.specs.States.{tile_of}
use Rattle.xs_core.specs.Views.{is_held, lacking, held_count}
use Rattle.xs_core.proofs.CountLemmas.{how_many-alike}
use Rattle.xs_word_desk.specs.declared.view.View.{View}
use Rattle.xs_word_desk.specs.Words.{Shape, Unclaimed, Taken, GivenUp, Finished, encode, made_in, leaving_in, open_in}
use Rattle.xs_word_desk.specs.Seen.{makes}
use Rattle.xs_word_desk.specs.Rule.{Slot, Holds}
use Rattle.xs_word_desk.specs.Plays.{IsSolo}
use Rattle.xs_word_desk.specs.Desks.{desk_view}
use Rattle.xs_word_desk.specs.Shown.{leaver, tile_shown, is_held_tile, held_tiles, shown}
use Rattle.xs_word_desk.proofs.WordLemmas.{reads_of_word}
use Rattle.xs_word_desk.proofs.ClaimSteps.{alone_sum}
use Rattle.xs_word_desk.proofs.ReadSteps.{alone_open}
use Rattle.xs_word_desk.proofs.ShownLemmas.{tile_is}

-- the tile of an alias with such a word is held where it was made and some of its reads are open
held_word :
    (shape : Shape) (seat readers : ℕ)
    → is_held_tile (tile_shown (leaving_in shape) seat (encode shape / 16))
    ≡ (ltb 0 (made_in shape) && ltb 0 (open_in readers shape))
held_word Unclaimed seat readers = refl
held_word Taken seat readers = refl
held_word GivenUp seat readers = refl
held_word (Finished turn true zero) seat readers =
    ap (λ n. is_held_tile (tile_shown 0 seat n)) (reads_of_word turn true 0)
held_word (Finished turn false zero) seat readers = refl
held_word (Finished turn true (suc reads)) seat readers =
    ap (λ n. is_held_tile (tile_shown 0 seat n)) (reads_of_word turn true (suc reads)) ∙ sym (lt-ltb 0 (suc reads) (omega arith))
held_word (Finished turn false (suc reads)) seat readers =
    ap (λ n. is_held_tile (tile_shown 0 seat n)) (reads_of_word turn false (suc reads)) ∙ sym (lt-ltb 0 (suc reads) (omega arith))

module _ (told : Option Pictures) (p : PlanRecord) where
  held_alike :
      (s : State Slot View) (table : TableId) (id k : ℕ) (v : View) → Holds told p s → get_elem? s.views id ≡ some v → IsSolo v
      → k < length p.entries → is_held p (desk_view table v) k ≡ is_held_tile (tile_of (shown p s) k)
  held_alike s table id k v holds me solo there =
      let part = holds.parts k there in
      let was = part.agrees in
      let made : makes k v ≡ made_in part.shape =
      sym (alone_sum told p s id v (makes k) holds me solo (λ u ok joined. omega (arith, ok.gone joined k, ok.backed k))) ∙ was.made in
      let open_ones : lacking p v.served k ≡ open_in (readers_of p k) part.shape =
      sym (alone_open told p s id k v holds me solo) ∙ was.counted in
      ap₂ (λ a b. ltb 0 a && ltb 0 b) made open_ones
      ∙ sym (held_word part.shape (leaver s.views k) (readers_of p k))
      ∙ sym (ap₂ (λ a b. is_held_tile (tile_shown a (leaver s.views k) (b / 16))) was.leaving was.says)
      ∙ sym (ap is_held_tile (tile_is p s k there))

  pub held_counted :
      (s : State Slot View) (table : TableId) (id : ℕ) (v : View) → Holds told p s → get_elem? s.views id ≡ some v → IsSolo v
      → held_count p (desk_view table v) ≡ held_tiles p (shown p s)
  held_counted s table id v holds me solo =
      how_many-alike (length p.entries) (is_held p (desk_view table v)) (λ k. is_held_tile (tile_of (shown p s) k))
      (λ k less. held_alike s table id k v holds me solo less)
