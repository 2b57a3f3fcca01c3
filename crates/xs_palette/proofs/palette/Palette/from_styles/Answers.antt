use Rattle.std.proofs.Common.{◌≡◌, ◌+◌, length, sym, arith}
use Rattle.std.proofs.Math.Path.{fun_ext}
use Rattle.std.proofs.lemmas.List.{length-map}
use Rattle.xs_palette.specs.Styles.{written}
use Rattle.xs_palette.proofs.Filling.{shows_more, IsTable-from_Shows, style_of-table}
use Rattle.xs_palette.proofs.palette.Palette.from_styles.Goals as goal

pub loop-id-preserved : goal.loop-id-preserved
loop-id-preserved c =
    let four : length c.to_bytes.result ≡ 4 = omega arith in
    rw c.in_ok-extend_from_slice.ensures.items
    (shows_more _ _ _ c.to_bytes.result c.shown.result c.loop-id.invariant
    (c.rows_of_bytes_are_rows_of_pixels.ensures.joined _ _ _ c.loop-id.invariant.count) four c.to_bytes.ensures.bytes
    c.shown.ensures c.to_bytes.ensures.valid)

pub invariant_of-result : goal.invariant_of-result
invariant_of-result c =
    let all : c.loop-id.id ≡ length c.args.styles.now + 1 = omega arith in
    IsTable-from_Shows (written c.args.styles.now) (length c.args.styles.now) _ (length-map _ _) (omega arith) (rw all at c.loop-id.invariant)

pub returns-clause-styles : goal.returns-clause-styles
returns-clause-styles c =
    let all : c.loop-id.id ≡ length c.args.styles.now + 1 = omega arith in
    fun_ext (style_of-table (written c.args.styles.now) (length c.args.styles.now) _ (length-map _ _) (rw all at c.loop-id.invariant))

pub returns-clause-size : goal.returns-clause-size
returns-clause-size c =
    let all : c.loop-id.id ≡ length c.args.styles.now + 1 = omega arith in
    rw (sym all) (c.rows_of_bytes_are_rows_of_pixels.ensures.count c.loop-id.id _ c.loop-id.invariant.count)
