use Rattle.std.proofs.Common.{ap, ◌∙◌}
use Rattle.xs_scene.specs.Records.{PegRecord}
use Rattle.xs_meaning.specs.Places.{own_offset}
use Rattle.xs_pixel.specs.Points.{point}
use Rattle.xs_sheet.proofs.Offsets.{own_offset-none, own_offset-some}
use Rattle.xs_sheet.proofs.keys.own_offset.Goals as goal

pub returns-in-None-clause-value : goal.returns-in-None-clause-value
returns-in-None-clause-value c =
    own_offset-none c.items-keys.result.now c.args.row c.in-None.ensures.value
    ∙ ap (λ keys. own_offset keys c.args.row) (c.items-keys.ensures ∙ ap (λ (p : PegRecord). p.keys) c.peg.view_is)

pub returns-in-Some-clause-value : goal.returns-in-Some-clause-value
returns-in-Some-clause-value c =
    own_offset-some c.items-keys.result.now c.args.row c.in-Some.key c.find_next.result
    (point c.offset_between.result.0 c.offset_between.result.1) c.in-Some.ensures.value c.find_next.ensures.value c.offset_between.ensures.value
    ∙ ap (λ keys. own_offset keys c.args.row) (c.items-keys.ensures ∙ ap (λ (p : PegRecord). p.keys) c.peg.view_is)
