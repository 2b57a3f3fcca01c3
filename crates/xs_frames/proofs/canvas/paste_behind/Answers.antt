use Rattle.std.proofs.Common.{◌-◌, ◌≤◌, List, ℕ, length, drop, subst, sym, arith}
use Rattle.std.proofs.lemmas.Slice.{take-put_mid_below}
use Rattle.xs_pixel.specs.PixelRows.{pixels}
use Rattle.xs_raster.specs.Bitmap.{bitmap}
use Rattle.xs_raster.specs.Changes.{Pastes}
use Rattle.xs_rawfile.specs.declared.frame.TheConstants.{FRAME_HEADER}
use Rattle.xs_frames.proofs.Bytes.{behind_all, behind_new}
use Rattle.xs_frames.proofs.canvas.paste_behind.Goals as goal

pub returns-clause-header : goal.returns-clause-header
returns-clause-header c =
    let long : FRAME_HEADER ≤ length c.args.bytes.now = omega arith in
    take-put_mid_below FRAME_HEADER (length c.args.bytes.now - FRAME_HEADER) c.args.bytes.now c.paste_into.new.bytes FRAME_HEADER (omega arith) long

pub returns-clause-points : goal.returns-clause-points
returns-clause-points c =
    let xs = c.args.bytes.now in
    let ys = c.paste_into.new.bytes in
    let long : FRAME_HEADER ≤ length xs = omega arith in
    subst (λ (new : List ℕ). Pastes (bitmap c.args.rect (pixels (drop FRAME_HEADER xs))) (bitmap c.args.rect (pixels new)) c.args.t.now.raster)
    (sym (behind_new xs ys long))
    (subst (λ (old : List ℕ). Pastes (bitmap c.args.rect (pixels old)) (bitmap c.args.rect (pixels ys)) c.args.t.now.raster)
    (behind_all xs) c.paste_into.ensures.points)
