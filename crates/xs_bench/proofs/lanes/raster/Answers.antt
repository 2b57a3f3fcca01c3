use Rattle.std.proofs.Common.{List, [], w32, sym, ap, ap₂, ◌∙◌, subst}
use Rattle.std.proofs.lemmas.Int.{to_z-of_z}
use Rattle.std.proofs.lemmas.Option.{get_or_from_slice_get}
use Rattle.xs_pixel.specs.Channels.{Channels}
use Rattle.xs_pixel.specs.Images.{Image, blurred}
use Rattle.xs_pixel.specs.Operations.{apply_of}
use Rattle.xs_pixel.specs.Points.{minus, point}
use Rattle.xs_raster.specs.Bitmap.{blank}
use Rattle.xs_plan.specs.declared.job.Job.TheVariants as job
use Rattle.xs_plan.specs.Valid.{IsOffset}
use Rattle.xs_plan.specs.Values.{plain_pixel, tinted_pixel}
use Rattle.xs_bench.specs.Inputs.{held_pictures, raster_image}
use Rattle.xs_bench.proofs.Blank.{shows_blur, shows_clear, shows_same}
use Rattle.xs_bench.proofs.Entries.{blank-sides, job-valid, offset-fits}
use Rattle.xs_bench.proofs.Images.{image_by}
use Rattle.xs_bench.proofs.Inputs.{lent, area_on, image_on, inputs_of_pair, input_of_blur}
use Rattle.xs_bench.proofs.lanes.raster.Goals as goal

pub blank-requires-clause-width : goal.blank-requires-clause-width
blank-requires-clause-width g c =
    (blank-sides c.args.p.now c.args.k c.rect-rect.result c.aliases.ensures.valid c.requires.there c.rect-rect.ensures).0

pub blank-requires-clause-height : goal.blank-requires-clause-height
blank-requires-clause-height g c =
    (blank-sides c.args.p.now c.args.k c.rect-rect.result c.aliases.ensures.valid c.requires.there c.rect-rect.ensures).1

pub leaf-requires-clause-width : goal.leaf-requires-clause-width
leaf-requires-clause-width g c =
    (blank-sides c.args.p.now c.args.k c.rect-rect.result c.aliases.ensures.valid c.requires.there c.rect-rect.ensures).0

pub leaf-requires-clause-height : goal.leaf-requires-clause-height
leaf-requires-clause-height g c =
    (blank-sides c.args.p.now c.args.k c.rect-rect.result c.aliases.ensures.valid c.requires.there c.rect-rect.ensures).1

pub tinted-requires-clause-width : goal.tinted-requires-clause-width
tinted-requires-clause-width g c =
    (blank-sides c.args.p.now c.args.k c.rect-rect.result c.aliases.ensures.valid c.requires.there c.rect-rect.ensures).0

pub tinted-requires-clause-height : goal.tinted-requires-clause-height
tinted-requires-clause-height g c =
    (blank-sides c.args.p.now c.args.k c.rect-rect.result c.aliases.ensures.valid c.requires.there c.rect-rect.ensures).1

pub card-requires-clause-width : goal.card-requires-clause-width
card-requires-clause-width g c =
    (blank-sides c.args.p.now c.args.k c.rect-rect.result c.aliases.ensures.valid c.requires.there c.rect-rect.ensures).0

pub card-requires-clause-height : goal.card-requires-clause-height
card-requires-clause-height g c =
    (blank-sides c.args.p.now c.args.k c.rect-rect.result c.aliases.ensures.valid c.requires.there c.rect-rect.ensures).1

pub invariant_of-leaf : goal.invariant_of-leaf
invariant_of-leaf g c =
    let valid = job-valid c.args.p.now c.args.k _ c.aliases.ensures.valid c.requires.there c.in-Leaf.ensures in
    let dx = to_z-of_z w32 c.in-Leaf.dx (offset-fits c.in-Leaf.dx valid.0) in
    let dy = to_z-of_z w32 c.in-Leaf.dy (offset-fits c.in-Leaf.dy valid.1) in
    record { near_x = subst IsOffset (sym dx) valid.0; near_y = subst IsOffset (sym dy) valid.1 }

pub invariant_of-to : goal.invariant_of-to
invariant_of-to g c =
    let valid = job-valid c.args.p.now c.args.k _ c.aliases.ensures.valid c.requires.there c.in-Tinted.ensures in
    let dx = to_z-of_z w32 c.in-Tinted.dx (offset-fits c.in-Tinted.dx valid.0) in
    let dy = to_z-of_z w32 c.in-Tinted.dy (offset-fits c.in-Tinted.dy valid.1) in
    record { near_x = subst IsOffset (sym dx) valid.0; near_y = subst IsOffset (sym dy) valid.1 }

pub tint-requires : goal.tint-requires
tint-requires g c =
    (job-valid c.args.p.now c.args.k _ c.aliases.ensures.valid c.requires.there c.in-Tinted.ensures).2

pub blur-requires-clause-radius : goal.blur-requires-clause-radius
blur-requires-clause-radius g c =
    (job-valid c.args.p.now c.args.k _ c.aliases.ensures.valid c.requires.there c.in-Blur.ensures).1

pub returns-in-Clear : goal.returns-in-Clear
returns-in-Clear g c =
    shows_clear _ _ c.blank.result (c.blank.ensures ∙ ap blank c.rect-rect.ensures)
    (λ x y held.
    sym (image_by c.args.d.now c.args.p.now c.args.k (lent c.args.a) (lent c.args.b) job.Clear (point x y) c.in-Clear.ensures))

pub returns-in-Leaf : goal.returns-in-Leaf
returns-in-Leaf g c =
    let valid = job-valid c.args.p.now c.args.k _ c.aliases.ensures.valid c.requires.there c.in-Leaf.ensures in
    let dx = to_z-of_z w32 c.in-Leaf.dx (offset-fits c.in-Leaf.dx valid.0) in
    let dy = to_z-of_z w32 c.in-Leaf.dy (offset-fits c.in-Leaf.dy valid.1) in
    let to = point c.in-Leaf.dx c.in-Leaf.dy in
    shows_same c.rect-rect.result _ (λ q. plain_pixel (held_pictures c.args.d.now c.in-Leaf.drawing) (minus q to)) _ c.leaf.result
    c.rect-rect.ensures
    (λ q. image_by c.args.d.now c.args.p.now c.args.k (lent c.args.a) (lent c.args.b)
    (job.Leaf c.in-Leaf.drawing c.in-Leaf.dx c.in-Leaf.dy) q c.in-Leaf.ensures)
    (rw (dx, dy) at c.leaf.ensures)

pub returns-in-Tinted : goal.returns-in-Tinted
returns-in-Tinted g c =
    let valid = job-valid c.args.p.now c.args.k _ c.aliases.ensures.valid c.requires.there c.in-Tinted.ensures in
    let dx = to_z-of_z w32 c.in-Tinted.dx (offset-fits c.in-Tinted.dx valid.0) in
    let dy = to_z-of_z w32 c.in-Tinted.dy (offset-fits c.in-Tinted.dy valid.1) in
    let to = point c.in-Tinted.dx c.in-Tinted.dy in
    let tint = get_or_from_slice_get c.args.p.now.tints c.in-Tinted.tint c.tint.result.now [] c.tint.ensures in
    let pictures = held_pictures c.args.d.now in
    shows_same c.rect-rect.result _ (λ q. tinted_pixel (pictures c.in-Tinted.drawing) c.tint.result.now (minus q to)) _ c.tinted.result
    c.rect-rect.ensures
    (λ q. ap (λ (t : List Channels). tinted_pixel (pictures c.in-Tinted.drawing) t (minus q to)) (sym tint)
    ∙ image_by c.args.d.now c.args.p.now c.args.k (lent c.args.a) (lent c.args.b)
    (job.Tinted c.in-Tinted.drawing c.in-Tinted.dx c.in-Tinted.dy c.in-Tinted.tint) q c.in-Tinted.ensures)
    (rw (dx, dy) at c.tinted.ensures)

pub returns-in-Card : goal.returns-in-Card
returns-in-Card g c =
    shows_same c.rect-rect.result _ (λ q. c.in-Card.pixel) _ c.card.result c.rect-rect.ensures
    (λ q. image_by c.args.d.now c.args.p.now c.args.k (lent c.args.a) (lent c.args.b) (job.Card c.in-Card.pixel) q c.in-Card.ensures)
    c.card.ensures

pub returns-in-Pair : goal.returns-in-Pair
returns-in-Pair g c =
    let has = inputs_of_pair c.in-Pair.op _ _ _ _ c.in-Pair.ensures c.requires.inputs in
    let u = c.pixels_of.result.now in
    let v = c.pixels_of-in-Pair.result.now in
    let on = area_on _ c.args.a u has.0 c.pixels_of.ensures in
    let first = image_on _ c.args.a u has.0 c.pixels_of.ensures in
    let second = image_on _ c.args.b v has.1 c.pixels_of-in-Pair.ensures in
    shows_same u.area _ (λ q. apply_of c.in-Pair.op (raster_image u q) (raster_image v q)) _ c.pair.result on
    (λ q. ap₂ (λ (f h : Image). apply_of c.in-Pair.op (f q) (h q)) first second
    ∙ image_by c.args.d.now c.args.p.now c.args.k (lent c.args.a) (lent c.args.b) (job.Pair c.in-Pair.op) q c.in-Pair.ensures)
    c.pair.ensures

pub returns-in-Blur : goal.returns-in-Blur
returns-in-Blur g c =
    let has = input_of_blur c.in-Blur.radius _ _ _ _ c.in-Blur.ensures c.requires.inputs in
    let u = c.pixels_of-in-Blur.result.now in
    let image = image_on _ c.args.a u has c.pixels_of-in-Blur.ensures in
    shows_same c.rect-rect.result _ (blurred c.in-Blur.radius (raster_image u)) _ c.blur.result c.rect-rect.ensures
    (λ q. ap (λ (f : Image). blurred c.in-Blur.radius f q) image
    ∙ image_by c.args.d.now c.args.p.now c.args.k (lent c.args.a) (lent c.args.b) (job.Blur c.in-Blur.radius) q c.in-Blur.ensures)
    (shows_blur c.rect-rect.result c.in-Blur.radius u c.blur.result c.blur.ensures.area c.blur.ensures.blurs)
