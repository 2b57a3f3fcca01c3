use Rattle.std.proofs.Common.{refl}
use Rattle.xs_frames.proofs.Bytes.{cleared, clear_behind}
use Rattle.xs_frames.proofs.canvas.Canvas.clear.Goals as goal

pub returns : goal.returns
returns c =
    clear_behind c.args.rect c.resize.new.self.items
    (cleared c.args.rect c.w-w.result c.h-h.result _ _ c.in_ok-bytes.bytes.items c.push_frame_header.new.bytes.items c.resize.new.self.items
    c.w-w.ensures.value c.h-h.ensures.value refl c.in_ok-bytes.ensures.items c.in_ok-push_frame_header.ensures
    c.push_frame_header.new.bytes.ok.0 c.in_ok-resize.ensures.items)
