use Rattle.std.proofs.Common.{◌≡◌, ◌<◌, None, is_some, length, refl, sym, ap, ◌∙◌, arith}
use Rattle.std.proofs.lemmas.List.{get_or_read}
use Rattle.xs_core.specs.Counts.{one_if, how_many}
use Rattle.xs_plain_desk.specs.Stored.{tile_at}
use Rattle.xs_plain_desk.proofs.StoreLemmas.{how_many-more}
use Rattle.xs_plain_desk.proofs.store.how_many_there.Goals as goal
use Rattle.xs_plain_desk.proofs.store.how_many_there.Goals.{then-is_some, else-is_some}

pub loop-tile-init : goal.loop-tile-init
unfolding how_many
loop-tile-init c = (omega arith, refl)

pub loop-tile-preserved : goal.loop-tile-preserved
loop-tile-preserved c =
    let tiles = c.args.tiles.now in
    let n = c.loop-tile.tile-index in
    let more = how_many-more n (λ k. is_some (tile_at tiles k)) in
    let lt : n < length tiles = omega arith in
    let item : c.tile-item.result ≡ tile_at tiles n = get_or_read tiles n c.tile-item.result lt c.tile-item.is None in
    elim c.if-is_some.branch [
      | then-is_some w ↦
          let here : one_if (is_some (tile_at tiles n)) ≡ 1 = ap (λ o. one_if (is_some o)) (sym item) ∙ ap one_if (sym c.is_some.ensures ∙ w.if-is_some.true) in
          (omega (arith, c.loop-tile.invariant.0, w.held-is), omega (arith, more, here, c.loop-tile.invariant.1, w.held-is))
      | else-is_some w ↦
          let here : one_if (is_some (tile_at tiles n)) ≡ 0 = ap (λ o. one_if (is_some o)) (sym item)
          ∙ ap one_if (sym c.is_some.ensures ∙ w.if-is_some.false) in
          (omega (arith, c.loop-tile.invariant.0, w.held-is), omega (arith, more, here, c.loop-tile.invariant.1, w.held-is))
    ]
