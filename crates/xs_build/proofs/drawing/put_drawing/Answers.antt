use Rattle.std.proofs.Common.{true, false, ◌≡◌, to_z, of_z, w32, rules, ap₂, List, Option, Some, MatchOption, slice_index_or, sym, ap, ◌∙◌, subst}
use Rattle.std.proofs.lemmas.Int.{ints}
use Rattle.std.proofs.lemmas.List.{get_or_default}
use Rattle.xs_pixel.specs.Points.{Point, point}
use Rattle.xs_scene.specs.declared.level.Kind.TheVariants.{Colour, Cm32}
use Rattle.xs_scene.specs.Records.{SceneRecord, ColoursRecord}
use Rattle.xs_pixel.specs.Channels.{Channels}
use Rattle.xs_meaning.specs.Drawings.{no_colours}
use Rattle.xs_meaning.specs.Expressions.{Expr, Leaf, Tinted, leaf_by}
use Rattle.xs_meaning.specs.Palettes.{is_as_written, tint_at}
use Rattle.xs_tint.specs.Filters.{dropped_by}
use Rattle.xs_tint.specs.Tints.{tint_of}
use Rattle.xs_demand.specs.Blocks.{spread}
use Rattle.xs_demand.specs.Renamed.{renamed}
use Rattle.xs_build.specs.States.{named, offset_of}
use Rattle.xs_build.proofs.Joining.{gives-puts}
use Rattle.xs_build.proofs.Leaves.{colours-by_kind, plain-leaf, tinted-leaf}
use Rattle.xs_build.proofs.drawing.put_drawing.Goals as goal

pub returns-in_ok-leaf-in-Colour : goal.returns-in_ok-leaf-in-Colour
returns-in_ok-leaf-in-Colour c =
    let at = c.args.at.now in
    let s = at.scene.now in
    let t = c.args.state in
    let f = dropped_by c.args.dropped.now in
    let across : to_z w32 (of_z w32 t.x) ≡ t.x = search (rules, ints) in
    let up : to_z w32 (of_z w32 t.y) ≡ t.y = search (rules, ints) in
    let o : point (to_z w32 (of_z w32 t.x)) (to_z w32 (of_z w32 t.y)) ≡ offset_of t = ap₂ point across up in
    gives-puts at.most c.args.entered.now c.leaf.new.self _ _ c.in_ok-leaf-in-Colour.field-0 c.in_ok-room.ensures.few
    (ap (λ (o : Point). spread (Leaf (named at.names.now c.args.d) o) t.growth) o
    ∙ ap (λ (p : Option ColoursRecord). spread (renamed (named at.names.now) (leaf_by p c.args.d t.spot.row f (offset_of t))) t.growth)
    (sym (colours-by_kind s c.args.d Colour c.in-Colour.ensures.value)))
    c.in_ok-leaf-in-Colour.ensures.entered

pub returns-in_ok-leaf-in-None : goal.returns-in_ok-leaf-in-None
returns-in_ok-leaf-in-None c =
    let at = c.args.at.now in
    let s = at.scene.now in
    let t = c.args.state in
    let f = dropped_by c.args.dropped.now in
    let across : to_z w32 (of_z w32 t.x) ≡ t.x = search (rules, ints) in
    let up : to_z w32 (of_z w32 t.y) ≡ t.y = search (rules, ints) in
    let o : point (to_z w32 (of_z w32 t.x)) (to_z w32 (of_z w32 t.y)) ≡ offset_of t = ap₂ point across up in
    let palette = c.in-Cm32.palette in
    let held = c.index-items-palette.result in
    let colours : held ≡ slice_index_or s.palettes palette no_colours =
    c.index-items-palette.is
    ∙ ap (λ (xs : List ColoursRecord). slice_index_or xs palette held)
    (c.items.ensures ∙ ap (λ (r : SceneRecord). r.palettes) (c.scene.view_is ∙ c.scene-scene.ensures.value))
    ∙ get_or_default s.palettes palette held no_colours c.in-Cm32.ensures.palette in
    let written = subst (λ (p : Option (List Channels)). MatchOption p (is_as_written held t.spot.row f ≡ true) (λ q. (is_as_written held t.spot.row f ≡ false) × (tint_of q ≡ tint_at held t.spot.row f))) c.in-None.is c.in_ok-repainted-in-Cm32.ensures in
    gives-puts at.most c.args.entered.now c.leaf-in-None.new.self _ _ c.in_ok-leaf-in-None.field-0 c.in_ok-room.ensures.few
    (ap (λ (o : Point). spread (Leaf (named at.names.now c.args.d) o) t.growth) o
    ∙ ap (λ (e : Expr). spread (renamed (named at.names.now) e) t.growth)
    (plain-leaf held c.args.d t.spot.row f (offset_of t) written
    ∙ ap (λ (p : Option ColoursRecord). leaf_by p c.args.d t.spot.row f (offset_of t))
    (ap (λ (x : ColoursRecord). Some x) colours ∙ sym (colours-by_kind s c.args.d (Cm32 palette) c.in-Cm32.ensures.value))))
    c.in_ok-leaf-in-None.ensures.entered

pub returns-in_ok-tinted-in-Some : goal.returns-in_ok-tinted-in-Some
returns-in_ok-tinted-in-Some c =
    let at = c.args.at.now in
    let s = at.scene.now in
    let t = c.args.state in
    let f = dropped_by c.args.dropped.now in
    let across : to_z w32 (of_z w32 t.x) ≡ t.x = search (rules, ints) in
    let up : to_z w32 (of_z w32 t.y) ≡ t.y = search (rules, ints) in
    let o : point (to_z w32 (of_z w32 t.x)) (to_z w32 (of_z w32 t.y)) ≡ offset_of t = ap₂ point across up in
    let palette = c.in-Cm32.palette in
    let held = c.index-items-palette.result in
    let colours : held ≡ slice_index_or s.palettes palette no_colours =
    c.index-items-palette.is
    ∙ ap (λ (xs : List ColoursRecord). slice_index_or xs palette held)
    (c.items.ensures ∙ ap (λ (r : SceneRecord). r.palettes) (c.scene.view_is ∙ c.scene-scene.ensures.value))
    ∙ get_or_default s.palettes palette held no_colours c.in-Cm32.ensures.palette in
    let other = subst (λ (p : Option (List Channels)). MatchOption p (is_as_written held t.spot.row f ≡ true) (λ q. (is_as_written held t.spot.row f ≡ false) × (tint_of q ≡ tint_at held t.spot.row f))) c.in-Some.is c.in_ok-repainted-in-Cm32.ensures in
    gives-puts at.most c.args.entered.now c.tinted.new.self _ _ c.in_ok-tinted-in-Some.field-0 c.in_ok-room.ensures.few
    (ap (λ (o : Point). spread (Tinted (named at.names.now c.args.d) o (tint_of c.in-Some.other)) t.growth) o
    ∙ ap (λ (e : Expr). spread (renamed (named at.names.now) e) t.growth)
    (ap (λ (tint : List Channels). Tinted c.args.d (offset_of t) tint) other.1
    ∙ tinted-leaf held c.args.d t.spot.row f (offset_of t) other.0
    ∙ ap (λ (p : Option ColoursRecord). leaf_by p c.args.d t.spot.row f (offset_of t))
    (ap (λ (x : ColoursRecord). Some x) colours ∙ sym (colours-by_kind s c.args.d (Cm32 palette) c.in-Cm32.ensures.value))))
    c.in_ok-tinted-in-Some.ensures.entered
