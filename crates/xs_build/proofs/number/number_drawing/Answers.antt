use Rattle.std.proofs.Common.{◌≡◌, ℕ, Bool, List, [], slice_index_or, ap, ◌∙◌, subst}
use Rattle.std.proofs.lemmas.List.{get_or_default}
use Rattle.xs_meaning.specs.Drawings.{colours_of}
use Rattle.xs_meaning.specs.Expressions.{leaf_by}
use Rattle.xs_tint.specs.Filters.{dropped_by}
use Rattle.xs_demand.specs.Blocks.{spread}
use Rattle.xs_demand.specs.Renamed.{renamed}
use Rattle.xs_stays.specs.Sets.{styles_in}
use Rattle.xs_build.specs.States.{named, dropped_in, offset_of, GivesPut}
use Rattle.xs_build.proofs.Giving.{gives-put, gives-memory}
use Rattle.xs_build.proofs.Joining.{enter-leaf}
use Rattle.xs_build.proofs.number.number_drawing.Goals as goal

pub returns-in_err-dropped : goal.returns-in_err-dropped
returns-in_err-dropped c =
    let at = c.args.at.now in
    let b = c.args.build.now in
    let t = c.args.state in
    gives-memory at b b
    (renamed (named at.names.now)
    (leaf_by (colours_of at.scene.now c.args.d) c.args.d t.spot.row (dropped_in b.sets.keys t.dropped) (offset_of t)))
    t.growth _ c.from_residual.ensures.1

pub returns : goal.returns
returns c =
    let at = c.args.at.now in
    let s = at.scene.now in
    let b = c.args.build.now in
    let t = c.args.state in
    let was = c.index-as_slice-state.result in
    let set : was ≡ slice_index_or b.sets.keys t.dropped [] =
    c.index-as_slice-state.is
    ∙ ap (λ (sets : List (List Bool)). slice_index_or sets t.dropped was) c.as_slice.ensures.keys
    ∙ get_or_default b.sets.keys t.dropped was [] c.requires.set in
    let same : dropped_by c.in_ok-dropped.dropped ≡ dropped_in b.sets.keys t.dropped = c.in_ok-dropped.ensures ∙ ap styles_in set in
    gives-put at b c.put_drawing.new.entered
    (renamed (named at.names.now) (leaf_by (colours_of s c.args.d) c.args.d t.spot.row (dropped_in b.sets.keys t.dropped) (offset_of t)))
    t.growth c.put_drawing.result c.requires.sound
    (enter-leaf (named at.names.now) (colours_of s c.args.d) c.args.d t.spot.row (dropped_in b.sets.keys t.dropped) (offset_of t) t.growth b.entered)
    (subst
    (λ (f : ℕ → Bool). GivesPut at.most b.entered c.put_drawing.new.entered
    (spread (renamed (named at.names.now) (leaf_by (colours_of s c.args.d) c.args.d t.spot.row f (offset_of t))) t.growth)
    c.put_drawing.result)
    same c.put_drawing.ensures)
