use Rattle.std.proofs.Common.{◌≡◌, ℕ, List, fold, ◌+◌, ◌*◌, ◌-◌, ◌<◌, ◌≤◌, refl, sym, ap, ap₂, ◌∙◌, subst, rules, arith}
use Rattle.xs_pixel.specs.Channels.{Channels}
use Rattle.xs_pixel.specs.Operations.{apply_of, over_of}
use Rattle.xs_pixel.specs.Points.{plus, minus}
use Rattle.xs_pixel.specs.Images.{Image, blurred}
use Rattle.xs_scene.specs.declared.node.Ref.{Ref}
use Rattle.xs_scene.specs.declared.node.Ref.TheVariants.{Column as ToColumn}
use Rattle.xs_meaning.specs.Palettes.{keeping, deleting}
use Rattle.xs_meaning.specs.RowValues.{by_points}
use Rattle.xs_step.specs.declared.spot.At.TheVariants.{Input}
use Rattle.xs_step.specs.declared.step.Step.TheVariants.{Clear, Drawing, Nested, Same, Keep, Delete, Pair, Blur, Card, Over}
use Rattle.xs_step.specs.Spots.{input_spot}
use Rattle.xs_direct.specs.Pictures.{pictures_in}
use Rattle.xs_direct.specs.Room.{CanMove, blur_reach, peg_reach, room_for, sheet_reach}
use Rattle.xs_direct.specs.Steps.{room_in, length_in}
use Rattle.xs_direct.specs.Sums.{AreSums, sums_at, line_of}
use Rattle.xs_direct.specs.Values.{dropped_in, image_in, answers_in, drawing_shown, stack_of}
use Rattle.xs_direct.proofs.FilterLemmas.{dropped_of-Keep, dropped_of-Delete}
use Rattle.xs_direct.proofs.Rooms.{CanMove-less, CanMove-minus, CanMove-plus}
use Rattle.xs_direct.proofs.StepLemmas.{next-there, further-there, next-room, nested-room, peg-room, room-from, further-length, next-length}
use Rattle.xs_direct.proofs.SumLemmas.{AreSums-more, AreSums-clear, AreSums-added, sums-none, lines-none, line_more, lines_more, blurred-lines, lines_fit, lines_fit_more}
use Rattle.xs_direct.proofs.ValueLemmas.{read, at_end, kept, image-at, next-image, next-under, composed-stack}
use Rattle.xs_direct.proofs.walk.Walk.+values.Goals as goal
use Rattle.xs_direct.proofs.walk.Walk.+values.Goals.{pixel-in-Clear, pixel-in-Drawing, pixel-in-Nested, pixel-in-Same, pixel-in-Keep, pixel-in-Delete, pixel-in-Pair, pixel-in-Blur, pixel-in-Card, pixel-in-Over}

-- ---- one step

pub pixel-pixel-requires : goal.pixel-pixel-requires
pixel-pixel-requires g t c κs within =
    let shorter = next-length c.args.self.now c.in-Some.further c.at.result c.in-Nested.row c.in-Some.ensures c.at.ensures in
    let room = nested-room c.args.self.now c.in-Some.further c.at.result c.in-Nested.row c.in-Nested.offset c.in-Some.ensures c.at.ensures
    c.in-Nested.ensures.step in (
      search rules,
      (
        search rules,
        (
          next-there c.args.self.now c.in-Some.further c.at.result c.in-Nested.row c.in-Some.ensures c.at.ensures
              c.in-Nested.ensures.there,
          CanMove-minus (room_in c.args.self.now) (room_in c.at.result) peg_reach c.args.p _ _
              (omega arith) c.requires.room c.in-Nested.ensures.bounds c.less-in-Nested.ensures,
        ),
      ),
    )

pub pixel-pixel-requires-in-Same : goal.pixel-pixel-requires-in-Same
pixel-pixel-requires-in-Same g t c κs within =
    let shorter = next-length c.args.self.now c.in-Some.further c.at-in-Same.result c.in-Same.next c.in-Some.ensures c.at-in-Same.ensures in
    let room = next-room c.args.self.now c.in-Some.further c.at-in-Same.result c.in-Same.next c.in-Some.ensures c.at-in-Same.ensures in (
      search rules,
      (
        search rules,
        (
          next-there c.args.self.now c.in-Some.further c.at-in-Same.result c.in-Same.next c.in-Some.ensures
              c.at-in-Same.ensures c.in-Same.ensures.there,
          CanMove-less (room_in c.args.self.now) (room_in c.at-in-Same.result) c.args.p (omega arith) c.requires.room,
        ),
      ),
    )

pub pixel-pixel-requires-in-Keep : goal.pixel-pixel-requires-in-Keep
pixel-pixel-requires-in-Keep g t c κs within =
    let shorter = next-length c.args.self.now c.in-Some.further c.at-in-Keep.result c.in-Keep.next c.in-Some.ensures c.at-in-Keep.ensures in
    let room = next-room c.args.self.now c.in-Some.further c.at-in-Keep.result c.in-Keep.next c.in-Some.ensures c.at-in-Keep.ensures in
    rw c.under.ensures (
      search rules,
      (
        search rules,
        (
          next-there c.args.self.now c.in-Some.further c.at-in-Keep.result c.in-Keep.next c.in-Some.ensures
              c.at-in-Keep.ensures c.in-Keep.ensures.there,
          CanMove-less (room_in c.args.self.now) (room_in c.at-in-Keep.result) c.args.p (omega arith) c.requires.room,
        ),
      ),
    )

pub pixel-pixel-requires-in-Delete : goal.pixel-pixel-requires-in-Delete
pixel-pixel-requires-in-Delete g t c κs within =
    let shorter = next-length c.args.self.now c.in-Some.further c.at-in-Delete.result c.in-Delete.next c.in-Some.ensures c.at-in-Delete.ensures in
    let room = next-room c.args.self.now c.in-Some.further c.at-in-Delete.result c.in-Delete.next c.in-Some.ensures c.at-in-Delete.ensures in
    rw c.under-in-Delete.ensures (
      search rules,
      (
        search rules,
        (
          next-there c.args.self.now c.in-Some.further c.at-in-Delete.result c.in-Delete.next c.in-Some.ensures
              c.at-in-Delete.ensures c.in-Delete.ensures.there,
          CanMove-less (room_in c.args.self.now) (room_in c.at-in-Delete.result) c.args.p
              (omega arith) c.requires.room,
        ),
      ),
    )

pub pixel-pixel-upper-requires : goal.pixel-pixel-upper-requires
pixel-pixel-upper-requires g t c κs within =
    let shorter = next-length c.args.self.now c.in-Some.further c.at-in-Pair.result c.in-Pair.first c.in-Some.ensures c.at-in-Pair.ensures in
    let room = next-room c.args.self.now c.in-Some.further c.at-in-Pair.result c.in-Pair.first c.in-Some.ensures c.at-in-Pair.ensures in (
      search rules,
      (
        search rules,
        (
          next-there c.args.self.now c.in-Some.further c.at-in-Pair.result c.in-Pair.first c.in-Some.ensures
              c.at-in-Pair.ensures c.in-Pair.ensures.there.0,
          CanMove-less (room_in c.args.self.now) (room_in c.at-in-Pair.result) c.args.p
              (omega arith) c.requires.room,
        ),
      ),
    )

pub pixel-pixel-lower-requires : goal.pixel-pixel-lower-requires
pixel-pixel-lower-requires g t c κs within =
    let shorter = next-length c.args.self.now c.in-Some.further c.at-in-Pair-2.result c.in-Pair.second c.in-Some.ensures c.at-in-Pair-2.ensures in
    let room = next-room c.args.self.now c.in-Some.further c.at-in-Pair-2.result c.in-Pair.second c.in-Some.ensures c.at-in-Pair-2.ensures in (
      search rules,
      (
        search rules,
        (
          next-there c.args.self.now c.in-Some.further c.at-in-Pair-2.result c.in-Pair.second c.in-Some.ensures
              c.at-in-Pair-2.ensures c.in-Pair.ensures.there.1,
          CanMove-less (room_in c.args.self.now) (room_in c.at-in-Pair-2.result) c.args.p
              (omega arith) c.requires.room,
        ),
      ),
    )

pub pixel-blurred_at-requires : goal.pixel-blurred_at-requires
pixel-blurred_at-requires g t c κs within =
    let shorter = next-length c.args.self.now c.in-Some.further c.at-in-Blur.result c.in-Blur.next c.in-Some.ensures c.at-in-Blur.ensures in
    let room = next-room c.args.self.now c.in-Some.further c.at-in-Blur.result c.in-Blur.next c.in-Some.ensures c.at-in-Blur.ensures in (
      search rules,
      (
        search rules,
        (
          next-there c.args.self.now c.in-Some.further c.at-in-Blur.result c.in-Blur.next c.in-Some.ensures
              c.at-in-Blur.ensures c.in-Blur.ensures.there,
          (c.in-Blur.ensures.bounds.1, CanMove-less (room_in c.args.self.now) (room_in c.at-in-Blur.result + blur_reach) c.args.p (omega arith) c.requires.room),
        ),
      ),
    )

pub pixel-stacked-requires : goal.pixel-stacked-requires
pixel-stacked-requires g t c κs within =
    let shorter = further-length c.args.self.now c.in-Some.further c.in-Some.ensures in
    let room = room-from c.args.self.now c.in-Some.further c.args.self.now.spot.at (Input (ToColumn 0)) c.in-Some.ensures in (
      search rules,
      (
        search rules,
        (
          further-there c.args.self.now c.in-Some.further c.in-Some.ensures c.requires.sheet,
          CanMove-less
              (room_in c.args.self.now) (room_for c.in-Some.further.depth c.in-Some.further.below) c.args.p (omega arith) c.requires.room,
        ),
      ),
    )

pub pixel-returns-in_default : goal.pixel-returns-in_default
pixel-returns-in_default g t c = at_end c.args.self.now c.args.p c.in_default.ensures

pub pixel-returns : goal.pixel-returns
unfolding by_points
pixel-returns g t c =
    elim c.match-step_at.branch [
      | pixel-in-Clear w ↦
          c.result.view_is ∙ w.result-is ∙ read c.args.self.now c.in-Some.further (Clear) c.args.p c.in-Some.ensures w.in-Clear.ensures.step
      | pixel-in-Drawing w ↦
          c.result.view_is ∙ w.result-is ∙ w.drawing_at.ensures ∙ ap (drawing_shown c.args.self.now w.number-d.result) w.less.ensures
          ∙ ap (λ d. drawing_shown c.args.self.now d (minus c.args.p w.in-Drawing.offset)) w.number-d.ensures.value
          ∙ read c.args.self.now c.in-Some.further (Drawing w.in-Drawing.level w.in-Drawing.index w.in-Drawing.offset) c.args.p c.in-Some.ensures
          w.in-Drawing.ensures.step
      | pixel-in-Nested w ↦
          c.result.view_is ∙ w.result-is ∙ w.pixel.ensures
          ∙ ap (λ (image : Image). image w.less-in-Nested.result)
          (next-image c.args.self.now c.in-Some.further w.at.result w.in-Nested.row c.in-Some.ensures w.at.ensures)
          ∙ ap (answers_in c.in-Some.further w.in-Nested.row (dropped_in c.args.self.now)) w.less-in-Nested.ensures
          ∙ read c.args.self.now c.in-Some.further (Nested w.in-Nested.row w.in-Nested.offset) c.args.p c.in-Some.ensures w.in-Nested.ensures.step
      | pixel-in-Same w ↦
          c.result.view_is ∙ w.result-is ∙ w.pixel-in-Same.ensures
          ∙ ap (λ (image : Image). image c.args.p) (next-image c.args.self.now c.in-Some.further w.at-in-Same.result w.in-Same.next
          c.in-Some.ensures w.at-in-Same.ensures)
          ∙ read c.args.self.now c.in-Some.further (Same w.in-Same.next) c.args.p c.in-Some.ensures w.in-Same.ensures.step
      | pixel-in-Keep w ↦
          c.result.view_is ∙ w.result-is ∙ w.pixel-in-Keep.ensures
          ∙ ap (λ (image : Image). image c.args.p)
          (next-under c.in-Some.further w.at-in-Keep.result w.under.result w.in-Keep.next _
          (keeping w.in-Keep.styles (dropped_in c.args.self.now)) w.at-in-Keep.ensures w.under.ensures
          (dropped_of-Keep _ _ ∙ ap (λ styles. keeping styles (dropped_in c.args.self.now)) w.items.ensures))
          ∙ read c.args.self.now c.in-Some.further (Keep w.in-Keep.next w.in-Keep.styles) c.args.p c.in-Some.ensures w.in-Keep.ensures.step
      | pixel-in-Delete w ↦
          c.result.view_is ∙ w.result-is ∙ w.pixel-in-Delete.ensures
          ∙ ap (λ (image : Image). image c.args.p)
          (next-under c.in-Some.further w.at-in-Delete.result w.under-in-Delete.result w.in-Delete.next _
          (deleting w.in-Delete.styles (dropped_in c.args.self.now)) w.at-in-Delete.ensures w.under-in-Delete.ensures
          (dropped_of-Delete _ _ ∙ ap (λ styles. deleting styles (dropped_in c.args.self.now)) w.items-in-Delete.ensures))
          ∙ read c.args.self.now c.in-Some.further (Delete w.in-Delete.next w.in-Delete.styles) c.args.p c.in-Some.ensures w.in-Delete.ensures.step
      | pixel-in-Pair w ↦
          c.result.view_is ∙ w.result-is ∙ w.apply.ensures
          ∙ ap₂ (apply_of w.in-Pair.op) (w.pixel-upper.ensures
          ∙ ap (λ (image : Image). image c.args.p) (next-image c.args.self.now c.in-Some.further w.at-in-Pair.result w.in-Pair.first
          c.in-Some.ensures w.at-in-Pair.ensures))
          (w.pixel-lower.ensures ∙ ap (λ (image : Image). image c.args.p)
          (next-image c.args.self.now c.in-Some.further w.at-in-Pair-2.result w.in-Pair.second c.in-Some.ensures w.at-in-Pair-2.ensures))
          ∙ read c.args.self.now c.in-Some.further (Pair w.in-Pair.op w.in-Pair.first w.in-Pair.second) c.args.p c.in-Some.ensures w.in-Pair.ensures.step
      | pixel-in-Blur w ↦
          c.result.view_is ∙ w.result-is ∙ w.blurred_at.ensures
          ∙ ap (λ image. blurred w.in-Blur.radius image c.args.p)
          (next-image c.args.self.now c.in-Some.further w.at-in-Blur.result w.in-Blur.next c.in-Some.ensures w.at-in-Blur.ensures)
          ∙ read c.args.self.now c.in-Some.further (Blur w.in-Blur.radius w.in-Blur.next) c.args.p c.in-Some.ensures w.in-Blur.ensures.step
      | pixel-in-Card w ↦
          c.result.view_is ∙ w.result-is ∙ w.pixel-in-Card.ensures
          ∙ read c.args.self.now c.in-Some.further (Card w.in-Card.style) c.args.p c.in-Some.ensures w.in-Card.ensures.step
      | pixel-in-Over w ↦
          c.result.view_is ∙ w.result-is ∙ w.stacked.ensures
          ∙ kept c.args.self.now c.in-Some.further (λ u. stack_of
          (λ t. answers_in c.in-Some.further (input_spot u.spot.sheet t u.spot.row) (dropped_in u) c.args.p) w.in-Over.terminals)
          (λ depth below. refl) c.in-Some.ensures
          ∙ composed-stack c.args.self.now.scene.now (pictures_in c.args.self.now.drawings.now)
          (λ t. answers_in c.in-Some.further (input_spot c.args.self.now.spot.sheet t c.args.self.now.spot.row)
          (dropped_in c.args.self.now)) c.args.p w.in-Over.terminals c.clear_input_vanishes.ensures.over_second
          ∙ read c.args.self.now c.in-Some.further (Over w.in-Over.terminals) c.args.p c.in-Some.ensures w.in-Over.ensures.step
    ]

-- ---- terminals

pub stacked-loop-terminal-preserved : goal.stacked-loop-terminal-preserved
stacked-loop-terminal-preserved g t c =
    let laid : Channels → Ref → Channels =
    λ was t. over_of (answers_in c.args.self.now (input_spot c.args.self.now.spot.sheet t c.args.self.now.spot.row) (dropped_in c.args.self.now) c.args.p) was
    in
    let upper =
    c.pixel-upper.ensures ∙ ap (λ (image : Image). image c.args.p) (image-at c.args.self.now c.at.result c.input.result c.at.ensures)
    ∙ ap (λ spot. answers_in c.args.self.now spot (dropped_in c.args.self.now) c.args.p) c.input.ensures
    in
    ap (λ pixel. fold laid pixel c.in-Some.above) (c.over-pixel.ensures ∙ ap (λ upper. over_of upper c.loop-terminal.pixel) upper)
    ∙ ap (fold laid c.loop-terminal.pixel) (sym c.in-Some.ensures) ∙ c.loop-terminal.invariant

-- ---- blurs

pub blurred_at-loop-j-init : goal.blurred_at-loop-j-init
blurred_at-loop-j-init g t c =
    let image : Image = image_in c.args.self.now in
    (lines-none image c.args.p c.args.radius, AreSums-clear _)

pub blurred_at-plus-sums-requires-clause-self_sums : goal.blurred_at-plus-sums-requires-clause-self_sums
blurred_at-plus-sums-requires-clause-self_sums g t c =
    AreSums-more (255 * ((2 * c.args.radius + 1) * c.loop-j.j)) 1000000 c.loop-j.sums
    (lines_fit c.args.radius c.loop-j.j (omega arith) (omega arith)) c.loop-j.invariant.1

pub blurred_at-loop-j-preserved : goal.blurred_at-loop-j-preserved
blurred_at-loop-j-preserved g t c =
    let image : Image = image_in c.args.self.now in (
      lines_more image c.args.p c.args.radius c.loop-j.j c.loop-j.sums c.line_sums-line.result c.plus-sums.result c.loop-j.invariant.0
          c.line_sums-line.ensures.value c.plus-sums.ensures,
      AreSums-added (255 * ((2 * c.args.radius + 1) * c.loop-j.j))
          (255 * (2 * c.args.radius + 1)) _ c.loop-j.sums c.line_sums-line.result _ c.loop-j.invariant.1 c.line_sums-line.ensures.sums
          (lines_fit_more c.args.radius c.loop-j.j) c.plus-sums.ensures,
    )

pub blurred_at-mean-requires-clause-sums : goal.blurred_at-mean-requires-clause-sums
blurred_at-mean-requires-clause-sums g t c =
    let all : c.loop-j.j ≡ 2 * c.args.radius + 1 = omega arith in
    subst (λ (j : ℕ). AreSums (255 * ((2 * c.args.radius + 1) * j)) c.loop-j.sums) all c.loop-j.invariant.1

pub blurred_at-returns : goal.blurred_at-returns
blurred_at-returns g t c =
    let image : Image = image_in c.args.self.now in
    let all : c.loop-j.j ≡ 2 * c.args.radius + 1 = omega arith in
    blurred-lines image c.args.p c.args.radius c.loop-j.j
    ((2 * c.args.radius + 1) * (2 * c.args.radius + 1)) c.loop-j.sums c.mean.result all refl c.loop-j.invariant.0 c.mean.ensures

pub line_sums-loop-i-init : goal.line_sums-loop-i-init
line_sums-loop-i-init g t c =
    let image : Image = image_in c.args.self.now in
    (sums-none image c.args.p, AreSums-clear _)

pub line_sums-plus-at-requires-clause-room : goal.line_sums-plus-at-requires-clause-room
line_sums-plus-at-requires-clause-room g t c =
    CanMove-less (room_in c.args.self.now + blur_reach) blur_reach c.args.p (omega arith) c.requires.room

pub line_sums-pixel-pixel-requires : goal.line_sums-pixel-pixel-requires
line_sums-pixel-pixel-requires g t c κs within = (
  search rules,
  (
    search rules,
    (
      c.requires.sheet,
      CanMove-plus (room_in c.args.self.now + blur_reach) (room_in c.args.self.now) blur_reach c.args.p _ _
          (omega arith) c.requires.room c.offset.ensures.near c.plus-at.ensures,
    ),
  ),
)

pub line_sums-plus-sums-requires-clause-self_sums : goal.line_sums-plus-sums-requires-clause-self_sums
line_sums-plus-sums-requires-clause-self_sums g t c =
    AreSums-more (255 * c.loop-i.i) 1000000 c.loop-i.sums (omega arith) c.loop-i.invariant.1

pub line_sums-loop-i-preserved : goal.line_sums-loop-i-preserved
line_sums-loop-i-preserved g t c =
    let image : Image = image_in c.args.self.now in (
      line_more image c.args.p c.plus-at.result c.args.radius c.args.j c.loop-i.i c.loop-i.sums c.of.result c.plus-sums.result c.loop-i.invariant.0
          (c.plus-at.ensures ∙ ap (plus c.args.p) c.offset.ensures.value) (c.of.ensures.value ∙ c.pixel-pixel.ensures) c.plus-sums.ensures,
      AreSums-added (255 * c.loop-i.i) 255 _ c.loop-i.sums c.of.result _ c.loop-i.invariant.1 c.of.ensures.sums (omega arith) c.plus-sums.ensures,
    )

pub line_sums-returns-clause-value : goal.line_sums-returns-clause-value
line_sums-returns-clause-value g t c =
    let image : Image = image_in c.args.self.now in
    let all : c.loop-i.i ≡ 2 * c.args.radius + 1 = omega arith in
    c.loop-i.invariant.0 ∙ ap (λ (i : ℕ). sums_at image c.args.p (line_of c.args.radius c.args.j i)) all

pub line_sums-returns-clause-sums : goal.line_sums-returns-clause-sums
line_sums-returns-clause-sums g t c =
    let all : c.loop-i.i ≡ 2 * c.args.radius + 1 = omega arith in
    subst (λ (i : ℕ). AreSums (255 * i) c.loop-i.sums) all c.loop-i.invariant.1
