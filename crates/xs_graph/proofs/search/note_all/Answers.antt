use Rattle.std.proofs.Common.{◌<◌, [], ◌∷◌, length, get_or, arith}
use Rattle.std.proofs.lemmas.List.{take_more}
use Rattle.xs_graph.specs.Search.{Grows}
use Rattle.xs_graph.proofs.Searches.{grows_one, grows_then}
use Rattle.xs_graph.proofs.search.note_all.Goals as goal

pub loop-number-preserved : goal.loop-number-preserved
loop-number-preserved c =
    let below : c.loop-number.number-index < length c.args.targets.now = omega arith in
    let number = get_or c.args.targets.now c.loop-number.number-index 0 in
    let step : Grows c.loop-number.seen.items c.loop-number.met.items (number ∷ []) c.note.new.seen.items c.note.new.met.items =
    rw (c.in_ok-note.ensures.met, c.in_ok-note.ensures.seen) (grows_one c.loop-number.seen.items c.loop-number.met.items number) in
    rw (take_more c.args.targets.now c.loop-number.number-index 0 below)
    (grows_then _ _ _ _ _ _ _ _ c.loop-number.invariant step)
