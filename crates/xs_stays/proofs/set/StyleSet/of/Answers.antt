use Rattle.std.proofs.Common.{◌≡◌, List, Bool, length, take, arith, sym, ap, ◌∙◌}
use Rattle.xs_stays.specs.Sets.{up_to_last}
use Rattle.xs_stays.proofs.Sets.{length-up_to_last, up_to_last-twice}
use Rattle.xs_stays.proofs.set.StyleSet.of.Goals as goal

pub invariant_of-result : goal.invariant_of-result
invariant_of-result c =
    let same : c.truncate.new.self.items ≡ up_to_last c.args.flags.items =
    c.truncate.ensures.items
    ∙ ap (λ (bs : List Bool). take c.shown_len-len.result bs) (sym c.deref.ensures.value)
    ∙ c.shown_len-len.ensures.shown ∙ ap up_to_last c.deref.ensures.value in (
      omega (arith, c.requires, ap length same, length-up_to_last c.args.flags.items),
      ap up_to_last same ∙ up_to_last-twice c.args.flags.items ∙ sym same,
    )
