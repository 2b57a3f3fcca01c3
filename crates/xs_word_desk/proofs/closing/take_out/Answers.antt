use Rattle.std.proofs.Common.{◌≡◌, ◌<◌, ◌+◌, Bool, false, None, List, is_some, length, get_or, set, refl, sym, ap, ◌∙◌, inl, inr, arith, add-one, get_or-set_same, get_or-set_other}
use Rattle.std.proofs.lemmas.Bool.{cases_eq}
use Rattle.xs_core.specs.Counts.{one_if, how_many}
use Rattle.xs_word_desk.specs.Rule.{Slot}
use Rattle.xs_word_desk.specs.Slots.{tiles_below}
use Rattle.xs_word_desk.proofs.ClosingLemmas.{at_place, tiles_more}
use Rattle.xs_word_desk.proofs.closing.take_out.Goals as goal
use Rattle.xs_word_desk.proofs.closing.take_out.Goals.{then-is_some, else-is_some}

pub loop-i-init : goal.loop-i-init
unfolding how_many
loop-i-init c = record {
  many = refl;
  end = c.slot_count-slots.ensures;
  items = refl;
  taken = λ k less. absurd (omega (arith, less));
  left = λ k low less. c.requires.full k less;
  few = omega arith;
  count = refl;
}

pub loop-i-preserved : goal.loop-i-preserved
loop-i-preserved c =
    let n = c.loop-i.i in
    let filled : List Bool = c.loop-i.closed.slots.filled in
    let others = c.take-tile.ensures.others in
    let there : n < length filled = omega (arith, c.loop-i.closed.slots.ok.1, c.loop-i.invariant.many, c.loop-i.invariant.end, c.loop-i-test.true) in
    let item : is_some (get_or c.args.closed.slots.items n None) ≡ is_some c.take-tile.result =
    ap (λ (l : List Slot). is_some (get_or l n None)) (sym c.loop-i.invariant.items)
    ∙ ap (λ (x : Slot). is_some x) (at_place c.loop-i.closed.slots.items n None c.take-tile.result c.take-tile.ensures.value) in
    let more : tiles_below (n + 1) c.args.closed.slots.items
    ≡ tiles_below n c.args.closed.slots.items + one_if (is_some (get_or c.args.closed.slots.items n None)) =
    ap (λ m. tiles_below m c.args.closed.slots.items) (add-one n) ∙ tiles_more n c.args.closed.slots.items in
    record {
      many = others.2 ∙ c.loop-i.invariant.many;
      end = c.loop-i.invariant.end;
      items = others.0 ∙ c.loop-i.invariant.items;
      taken = λ k less. ap (λ (l : List Bool). get_or l k false) others.1 ∙ (elim (cases_eq k n) [
        | inl same ↦ ap (λ j. get_or (set filled n false) j false) same ∙ get_or-set_same filled n false false there
        | inr differ ↦ get_or-set_other filled n k false false differ ∙ c.loop-i.invariant.taken k (omega (arith, less, differ))
      ]);
      left = λ k low less. ap (λ (l : List Bool). get_or l k false) others.1
          ∙ get_or-set_other filled n k false false (λ same. absurd (omega (arith, same, low)))
          ∙ c.loop-i.invariant.left k (omega (arith, low)) less;
      few = elim c.if-is_some.branch [
        | then-is_some w ↦ omega (arith, c.loop-i.invariant.few, w.tiles-is)
        | else-is_some w ↦ omega (arith, c.loop-i.invariant.few, w.tiles-is)
      ];
      count = elim c.if-is_some.branch [
        | then-is_some w ↦
            let here : one_if (is_some (get_or c.args.closed.slots.items n None)) ≡ 1 = ap one_if (item ∙ sym c.is_some.ensures ∙ w.if-is_some.true) in
            omega (arith, more, here, c.loop-i.invariant.count, w.tiles-is)
        | else-is_some w ↦
            let here : one_if (is_some (get_or c.args.closed.slots.items n None)) ≡ 0 = ap one_if (item ∙ sym c.is_some.ensures ∙ w.if-is_some.false) in
            omega (arith, more, here, c.loop-i.invariant.count, w.tiles-is)
      ];
    }
