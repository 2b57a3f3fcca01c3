use Rattle.std.proofs.Common.{◌≡◌, ◌≤◌, List, length, sym, ap, ◌∙◌, subst, ltb-false}
use Rattle.std.specs.Option.{is_some}
use Rattle.std.proofs.lemmas.List.{get_or_past}
use Rattle.xs_scene.specs.Records.{SheetRecord, PegRecord}
use Rattle.xs_meaning.specs.Places.{own_offset, no_peg}
use Rattle.xs_sheet.proofs.Offsets.{own_offset-nil}
use Rattle.xs_sheet.proofs.pegs.SheetPegs.own_offset.Goals as goal

pub returns-in-None-clause-value : goal.returns-in-None-clause-value
returns-in-None-clause-value c =
    let s = c.args.self.now in
    let pegs : c.items.result.now ≡ s.pegs = c.items.ensures ∙ ap (λ (k : SheetRecord). k.pegs) c.self.view_is in
    let past : length c.items.result.now ≤ c.args.peg =
    ltb-false c.args.peg (length c.items.result.now) (sym c.get.ensures.lookup.0 ∙ ap is_some c.in-None.is) in
    own_offset-nil c.args.row
    ∙ sym (ap (λ (p : PegRecord). own_offset p.keys c.args.row)
    (get_or_past s.pegs c.args.peg no_peg (subst (λ (xs : List PegRecord). length xs ≤ c.args.peg) pegs past)))
