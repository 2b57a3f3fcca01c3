use Rattle.std.proofs.Common.{◌-ℤ◌, w32, List, [], sym, ap, ap₂, ◌∙◌, arith}
use Rattle.std.proofs.lemmas.Int.{ints, to_z-of_z}
use Rattle.std.proofs.lemmas.Option.{get_or_from_slice_get}
use Rattle.xs_pixel.specs.Channels.{Channels}
use Rattle.xs_pixel.specs.Images.{Image, blurred}
use Rattle.xs_pixel.specs.Operations.{apply_of}
use Rattle.xs_pixel.specs.Points.{point, minus}
use Rattle.xs_plan.specs.declared.job.Job.TheVariants as job
use Rattle.xs_plan.specs.Values.{tinted_pixel}
use Rattle.xs_bench.specs.Inputs.{held_pictures}
use Rattle.xs_bench.proofs.Entries.{job-valid, entry-valid, offset-fits, moved-fits, drawing-held}
use Rattle.xs_bench.proofs.Held.{plain-held}
use Rattle.xs_bench.proofs.Images.{image_by}
use Rattle.xs_bench.proofs.Inputs.{lent, area_on, image_on, inputs_of_pair, input_of_blur}
use Rattle.xs_bench.proofs.plain.pixel.Goals as goal

pub overflow_sub-x : goal.overflow_sub-x
overflow_sub-x g c =
    let valid = job-valid c.args.p.now c.args.k _ c.aliases.ensures.valid c.requires.there c.in-Leaf.ensures in
    let rect = (entry-valid c.args.p.now c.args.k c.aliases.ensures.valid c.requires.there).valid in
    let x = to_z-of_z w32 c.args.x c.ranges.x in
    let moved = to_z-of_z w32 c.in-Leaf.dx (offset-fits c.in-Leaf.dx valid.0) in
    rw (x, moved) (moved-fits _ _ c.args.x c.in-Leaf.dx rect.near_x rect.side_w c.requires.point.across valid.0)

pub overflow_sub-y : goal.overflow_sub-y
overflow_sub-y g c =
    let valid = job-valid c.args.p.now c.args.k _ c.aliases.ensures.valid c.requires.there c.in-Leaf.ensures in
    let rect = (entry-valid c.args.p.now c.args.k c.aliases.ensures.valid c.requires.there).valid in
    let y = to_z-of_z w32 c.args.y c.ranges.y in
    let moved = to_z-of_z w32 c.in-Leaf.dy (offset-fits c.in-Leaf.dy valid.1) in
    rw (y, moved) (moved-fits _ _ c.args.y c.in-Leaf.dy rect.near_y rect.side_h c.requires.point.up valid.1)

pub tint-requires : goal.tint-requires
tint-requires g c =
    (job-valid c.args.p.now c.args.k _ c.aliases.ensures.valid c.requires.there c.in-Tinted.ensures).2

pub overflow_sub-x-in-Tinted : goal.overflow_sub-x-in-Tinted
overflow_sub-x-in-Tinted g c =
    let valid = job-valid c.args.p.now c.args.k _ c.aliases.ensures.valid c.requires.there c.in-Tinted.ensures in
    let rect = (entry-valid c.args.p.now c.args.k c.aliases.ensures.valid c.requires.there).valid in
    let x = to_z-of_z w32 c.args.x c.ranges.x in
    let moved = to_z-of_z w32 c.in-Tinted.dx (offset-fits c.in-Tinted.dx valid.0) in
    rw (x, moved) (moved-fits _ _ c.args.x c.in-Tinted.dx rect.near_x rect.side_w c.requires.point.across valid.0)

pub overflow_sub-y-in-Tinted : goal.overflow_sub-y-in-Tinted
overflow_sub-y-in-Tinted g c =
    let valid = job-valid c.args.p.now c.args.k _ c.aliases.ensures.valid c.requires.there c.in-Tinted.ensures in
    let rect = (entry-valid c.args.p.now c.args.k c.aliases.ensures.valid c.requires.there).valid in
    let y = to_z-of_z w32 c.args.y c.ranges.y in
    let moved = to_z-of_z w32 c.in-Tinted.dy (offset-fits c.in-Tinted.dy valid.1) in
    rw (y, moved) (moved-fits _ _ c.args.y c.in-Tinted.dy rect.near_y rect.side_h c.requires.point.up valid.1)

pub pixel-requires-in-Pair-2 : goal.pixel-requires-in-Pair-2
pixel-requires-in-Pair-2 g c =
    let x = to_z-of_z w32 c.args.x c.ranges.x in
    let y = to_z-of_z w32 c.args.y c.ranges.y in
    let has = inputs_of_pair c.in-Pair.op _ _ _ _ c.in-Pair.ensures c.requires.inputs in
    let on = area_on _ c.args.b c.pixels_of-in-Pair.result.now has.1 c.pixels_of-in-Pair.ensures in
    rw (x, y, on) c.requires.point

pub blur_plain-requires-clause-radius : goal.blur_plain-requires-clause-radius
blur_plain-requires-clause-radius g c =
    (job-valid c.args.p.now c.args.k _ c.aliases.ensures.valid c.requires.there c.in-Blur.ensures).1

pub blur_plain-requires-clause-there : goal.blur_plain-requires-clause-there
blur_plain-requires-clause-there g c =
    let x = to_z-of_z w32 c.args.x c.ranges.x in
    let y = to_z-of_z w32 c.args.y c.ranges.y in
    let has = input_of_blur c.in-Blur.radius _ _ _ _ c.in-Blur.ensures c.requires.inputs in
    let on = area_on _ c.args.a c.pixels_of-in-Blur.result.now has c.pixels_of-in-Blur.ensures in
    let across = c.requires.point.across in
    let up = c.requires.point.up in
    rw (x, y, on) (record {
      across = (omega (arith, ints, across.least, across.below), omega (arith, ints, across.least, across.below));
      up = (omega (arith, ints, up.least, up.below), omega (arith, ints, up.least, up.below));
    })

pub returns-in-Clear : goal.returns-in-Clear
returns-in-Clear g c =
    image_by c.args.d.now c.args.p.now c.args.k (lent c.args.a) (lent c.args.b) _ (point c.args.x c.args.y) c.in-Clear.ensures

pub returns-in-Leaf : goal.returns-in-Leaf
returns-in-Leaf g c =
    let valid = job-valid c.args.p.now c.args.k _ c.aliases.ensures.valid c.requires.there c.in-Leaf.ensures in
    let rect = (entry-valid c.args.p.now c.args.k c.aliases.ensures.valid c.requires.there).valid in
    let x = to_z-of_z w32 c.args.x c.ranges.x in
    let y = to_z-of_z w32 c.args.y c.ranges.y in
    let dx = to_z-of_z w32 c.in-Leaf.dx (offset-fits c.in-Leaf.dx valid.0) in
    let dy = to_z-of_z w32 c.in-Leaf.dy (offset-fits c.in-Leaf.dy valid.1) in
    let across = to_z-of_z w32 (c.args.x -ℤ c.in-Leaf.dx) (moved-fits _ _ c.args.x c.in-Leaf.dx rect.near_x rect.side_w c.requires.point.across valid.0) in
    let up = to_z-of_z w32 (c.args.y -ℤ c.in-Leaf.dy) (moved-fits _ _ c.args.y c.in-Leaf.dy rect.near_y rect.side_h c.requires.point.up valid.1) in
    let held = drawing-held c.args.d.now _ _ c.in-Leaf.ensures c.requires.drawing in
    plain-held c.args.d.now c.in-Leaf.drawing (minus (point c.args.x c.args.y) (point c.in-Leaf.dx c.in-Leaf.dy)) c.pixel.result held
    (rw (x, dx, across, y, dy, up) at c.pixel.ensures)
    ∙ image_by c.args.d.now c.args.p.now c.args.k (lent c.args.a) (lent c.args.b)
    (job.Leaf c.in-Leaf.drawing c.in-Leaf.dx c.in-Leaf.dy) (point c.args.x c.args.y) c.in-Leaf.ensures

pub returns-in-Tinted : goal.returns-in-Tinted
returns-in-Tinted g c =
    let valid = job-valid c.args.p.now c.args.k _ c.aliases.ensures.valid c.requires.there c.in-Tinted.ensures in
    let rect = (entry-valid c.args.p.now c.args.k c.aliases.ensures.valid c.requires.there).valid in
    let x = to_z-of_z w32 c.args.x c.ranges.x in
    let y = to_z-of_z w32 c.args.y c.ranges.y in
    let dx = to_z-of_z w32 c.in-Tinted.dx (offset-fits c.in-Tinted.dx valid.0) in
    let dy = to_z-of_z w32 c.in-Tinted.dy (offset-fits c.in-Tinted.dy valid.1) in
    let across = to_z-of_z w32 (c.args.x -ℤ c.in-Tinted.dx) (moved-fits _ _ c.args.x c.in-Tinted.dx rect.near_x rect.side_w c.requires.point.across valid.0) in
    let up = to_z-of_z w32 (c.args.y -ℤ c.in-Tinted.dy) (moved-fits _ _ c.args.y c.in-Tinted.dy rect.near_y rect.side_h c.requires.point.up valid.1) in
    let held = drawing-held c.args.d.now _ _ c.in-Tinted.ensures c.requires.drawing in
    let tint = get_or_from_slice_get c.args.p.now.tints c.in-Tinted.tint c.tint.result.now [] c.tint.ensures in
    let q = minus (point c.args.x c.args.y) (point c.in-Tinted.dx c.in-Tinted.dy) in
    (rw (x, dx, across, y, dy, up) at c.tinted.ensures)
    ∙ ap (λ (t : List Channels). tinted_pixel (held_pictures c.args.d.now c.in-Tinted.drawing) t q) (sym tint)
    ∙ image_by c.args.d.now c.args.p.now c.args.k (lent c.args.a) (lent c.args.b)
    (job.Tinted c.in-Tinted.drawing c.in-Tinted.dx c.in-Tinted.dy c.in-Tinted.tint) (point c.args.x c.args.y) c.in-Tinted.ensures

pub returns-in-Card : goal.returns-in-Card
returns-in-Card g c =
    image_by c.args.d.now c.args.p.now c.args.k (lent c.args.a) (lent c.args.b) _ (point c.args.x c.args.y) c.in-Card.ensures

pub returns-in-Pair : goal.returns-in-Pair
returns-in-Pair g c =
    let x = to_z-of_z w32 c.args.x c.ranges.x in
    let y = to_z-of_z w32 c.args.y c.ranges.y in
    let has = inputs_of_pair c.in-Pair.op _ _ _ _ c.in-Pair.ensures c.requires.inputs in
    let first = image_on _ c.args.a c.pixels_of.result.now has.0 c.pixels_of.ensures in
    let second = image_on _ c.args.b c.pixels_of-in-Pair.result.now has.1 c.pixels_of-in-Pair.ensures in
    c.apply.ensures
    ∙ ap₂ (apply_of c.in-Pair.op)
    (rw (x, y) at c.pixel-in-Pair.ensures ∙ ap (λ (f : Image). f (point c.args.x c.args.y)) first)
    (rw (x, y) at c.pixel-in-Pair-2.ensures ∙ ap (λ (f : Image). f (point c.args.x c.args.y)) second)
    ∙ image_by c.args.d.now c.args.p.now c.args.k (lent c.args.a) (lent c.args.b) (job.Pair c.in-Pair.op) (point c.args.x c.args.y) c.in-Pair.ensures

pub returns-in-Blur : goal.returns-in-Blur
returns-in-Blur g c =
    let x = to_z-of_z w32 c.args.x c.ranges.x in
    let y = to_z-of_z w32 c.args.y c.ranges.y in
    let has = input_of_blur c.in-Blur.radius _ _ _ _ c.in-Blur.ensures c.requires.inputs in
    let image = image_on _ c.args.a c.pixels_of-in-Blur.result.now has c.pixels_of-in-Blur.ensures in
    (rw (x, y) at c.blur_plain.ensures)
    ∙ ap (λ (f : Image). blurred c.in-Blur.radius f (point c.args.x c.args.y)) image
    ∙ image_by c.args.d.now c.args.p.now c.args.k (lent c.args.a) (lent c.args.b) (job.Blur c.in-Blur.radius) (point c.args.x c.args.y) c.in-Blur.ensures
