-- The tints of all aliases are those of the expressions that rows enter
use Rattle.std.proofs.Common.{◌≡◌, ◌<◌, Bool, true, false, if◌then◌else◌, List, [], ◌∷◌, ◌++◌, length, map, fold, refl, sym, ap, ◌∙◌, arith}
use Rattle.std.specs.List.{list_any, filter_map}
use Rattle.std.proofs.lemmas.Bool.{cond-true, or_left, or_right}
use Rattle.std.proofs.lemmas.List.{map-append}
use Rattle.std.proofs.lemmas.List.Elements.{filter_map-append}
use Rattle.std.proofs.lemmas.List.Folds.{list_any-append}
use Rattle.std.proofs.lemmas.List.Sums.{fold-append}
use Rattle.xs_pixel.specs.Channels.{Channels}
use Rattle.xs_rect.specs.Area.{Area}
use Rattle.xs_meaning.specs.Expressions.{Expr}
use Rattle.xs_meaning.specs.Palettes.{same_pixels}
use Rattle.xs_demand.specs.Aliases.{Alias, aliases_of}
use Rattle.xs_demand.specs.Blocks.{Spread, enter, enter_rows, new_of, alias_on, block, blocks, GrowApart}
use Rattle.xs_demand.specs.Shown.{tint_in, with_tint, tints_in, tints_of}
use Rattle.xs_demand.proofs.SameLemmas.{Decides-same_pixels}
use Rattle.xs_demand.proofs.BlockVisits.{entered_new}
use Rattle.xs_demand.proofs.BlockRows.{aliases_of-blocks}

-- ---- tints that stand

abbrev stands : List (List Channels) → List Channels → Bool
stands tints tint = list_any (same_pixels tint) tints

stands_with :
    (tints : List (List Channels)) (tint other : List Channels) → stands tints tint ≡ true
    → stands (with_tint tints other) tint ≡ true
stands_with tints tint other there = by (stands tints other) where
  by : (b : Bool) → stands (if b then tints else tints ++ other ∷ []) tint ≡ true
  by true = there
  by false =
      list_any-append (same_pixels tint) tints (other ∷ [])
      ∙ or_left (stands tints tint) (stands (other ∷ []) tint) there

stands_itself : (tints : List (List Channels)) (tint : List Channels) → stands (with_tint tints tint) tint ≡ true
stands_itself tints tint = by (stands tints tint) refl where
  by : (b : Bool) → stands tints tint ≡ b → stands (if b then tints else tints ++ tint ∷ []) tint ≡ true
  by true is = is
  by false is =
      list_any-append (same_pixels tint) tints (tint ∷ [])
      ∙ or_right (stands tints tint) (stands (tint ∷ []) tint)
      (or_left (same_pixels tint tint) false ((Decides-same_pixels tint tint).1 refl))

stands_after :
    (tints more : List (List Channels)) (tint : List Channels) → stands tints tint ≡ true
    → stands (fold with_tint tints more) tint ≡ true
stands_after tints [] tint there = there
stands_after tints (other ∷ more) tint there =
    stands_after (with_tint tints other) more tint (stands_with tints tint other there)

-- all of some tints stand
abbrev AllStand : List (List Channels) → List (List Channels) → Type 0
AllStand [] tints = Unit {0}
AllStand (tint ∷ more) tints = (stands tints tint ≡ true) × AllStand more tints

all_stand : (more tints : List (List Channels)) → AllStand more (fold with_tint tints more)
all_stand [] tints = tt
all_stand (tint ∷ more) tints =
    (stands_after (with_tint tints tint) more tint (stands_itself tints tint), all_stand more (with_tint tints tint))

-- they add nothing
nothing_new : (more tints : List (List Channels)) → AllStand more tints → fold with_tint tints more ≡ tints
nothing_new [] tints there = refl
nothing_new (tint ∷ more) tints there =
    ap (λ l. fold with_tint l more) (cond-true (stands tints tint) tints (tints ++ tint ∷ []) there.0)
    ∙ nothing_new more tints there.1

-- ---- blocks

abbrev tints_on : List Alias → List (List Channels)
tints_on l = filter_map tint_in (map (λ x. x.expr) l)

abbrev tints_among : List Spread → List (List Channels)
tints_among l = filter_map tint_in (map (λ x. x.expr) l)

tints_on-append : (l more : List Alias) → tints_on (l ++ more) ≡ tints_on l ++ tints_on more
tints_on-append l more =
    ap (filter_map tint_in) (map-append (λ (x : Alias). x.expr) l more)
    ∙ filter_map-append tint_in (map (λ (x : Alias). x.expr) l) (map (λ (x : Alias). x.expr) more)

tints_among-append : (l more : List Spread) → tints_among (l ++ more) ≡ tints_among l ++ tints_among more
tints_among-append l more =
    ap (filter_map tint_in) (map-append (λ (x : Spread). x.expr) l more)
    ∙ filter_map-append tint_in (map (λ (x : Spread). x.expr) l) (map (λ (x : Spread). x.expr) more)

exprs_on : (tile : Area) (new : List Spread) → map (λ (x : Alias). x.expr) (map (alias_on tile) new) ≡ map (λ (x : Spread). x.expr) new
exprs_on tile [] = refl
exprs_on tile (x ∷ new) = ap (λ es. x.expr ∷ es) (exprs_on tile new)

-- the tints of a block, tile by tile
tints_on-block :
    (tile : Area) (tiles : List Area) (new : List Spread)
    → tints_on (block (tile ∷ tiles) new) ≡ tints_among new ++ tints_on (block tiles new)
tints_on-block tile tiles new =
    tints_on-append (map (alias_on tile) new) (block tiles new)
    ∙ ap (λ l. filter_map tint_in l ++ tints_on (block tiles new)) (exprs_on tile new)

block_adds_nothing :
    (tiles : List Area) (new : List Spread) (tints : List (List Channels)) → AllStand (tints_among new) tints
    → fold with_tint tints (tints_on (block tiles new)) ≡ tints
block_adds_nothing [] new tints there = refl
block_adds_nothing (tile ∷ tiles) new tints there =
    ap (fold with_tint tints) (tints_on-block tile tiles new)
    ∙ fold-append with_tint tints (tints_among new) (tints_on (block tiles new))
    ∙ ap (λ l. fold with_tint l (tints_on (block tiles new))) (nothing_new (tints_among new) tints there)
    ∙ block_adds_nothing tiles new tints there

-- its later tiles have no new tint
tints_after_block :
    (tiles : List Area) (new : List Spread) (tints : List (List Channels)) → 0 < length tiles
    → fold with_tint tints (tints_on (block tiles new)) ≡ fold with_tint tints (tints_among new)
tints_after_block [] new tints some = absurd (omega arith)
tints_after_block (tile ∷ tiles) new tints some =
    ap (fold with_tint tints) (tints_on-block tile tiles new)
    ∙ fold-append with_tint tints (tints_among new) (tints_on (block tiles new))
    ∙ block_adds_nothing tiles new (fold with_tint tints (tints_among new)) (all_stand (tints_among new) tints)

tints_after_row :
    (e : Expr) (held : List Spread)
    → fold with_tint (fold with_tint [] (tints_among held)) (tints_among (new_of e held))
    ≡ fold with_tint [] (tints_among (enter e 0 held))
tints_after_row e held =
    sym (fold-append with_tint [] (tints_among held) (tints_among (new_of e held)))
    ∙ ap (fold with_tint [])
    (sym (tints_among-append held (new_of e held)) ∙ ap tints_among (sym (entered_new e 0 held)))

tints_after_blocks :
    (tiles : List Area) (roots : List Expr) (held : List Spread) → 0 < length tiles
    → fold with_tint (fold with_tint [] (tints_among held)) (tints_on (blocks tiles roots held))
    ≡ fold with_tint [] (tints_among (enter_rows roots held))
tints_after_blocks tiles [] held some = refl
tints_after_blocks tiles (e ∷ roots) held some =
    let tints = fold with_tint [] (tints_among held) in
    let new = new_of e held in
    let rest = blocks tiles roots (enter e 0 held) in
    ap (fold with_tint tints) (tints_on-append (block tiles new) rest)
    ∙ fold-append with_tint tints (tints_on (block tiles new)) (tints_on rest)
    ∙ ap (λ l. fold with_tint l (tints_on rest)) (tints_after_block tiles new tints some ∙ tints_after_row e held)
    ∙ tints_after_blocks tiles roots (enter e 0 held) some

pub tints_of-entered :
    (tiles : List Area) (roots : List Expr) → 0 < length tiles → GrowApart tiles
    → tints_of (aliases_of tiles roots) ≡ tints_in (map (λ x. x.expr) (enter_rows roots []))
tints_of-entered tiles roots some apart =
    ap tints_of (aliases_of-blocks tiles roots apart) ∙ tints_after_blocks tiles roots [] some
