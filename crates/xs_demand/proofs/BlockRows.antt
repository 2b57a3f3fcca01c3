-- Rows add a block each
use Rattle.std.proofs.Common.{◌≡◌, ℕ, zero, suc, false, ◌||◌, List, [], ◌∷◌, ◌++◌, Some, map, slice_get, refl, sym, ap, ap₂, ◌∙◌, subst}
use Rattle.std.specs.List.{list_any}
use Rattle.std.proofs.Math.Bool.{or-false}
use Rattle.std.proofs.lemmas.Bool.{or_from}
use Rattle.std.proofs.lemmas.List.{append-nil, append_assoc}
use Rattle.std.proofs.lemmas.List.Folds.{list_any-append}
use Rattle.std.proofs.lemmas.Option.{same_Some}
use Rattle.xs_rect.specs.Area.{Area}
use Rattle.xs_meaning.specs.Expressions.{Expr}
use Rattle.xs_demand.specs.Aliases.{Alias, same_alias, stands_in, visit, visit_tiles, visit_rows, aliases_of}
use Rattle.xs_demand.specs.Blocks.{Spread, same_spread, enter, enter_rows, new_of, alias_on, block, blocks, GrowApart}
use Rattle.xs_demand.proofs.GrownTiles.{StaysApart, tail_apart, head_apart}
use Rattle.xs_demand.proofs.BlockVisits.{Has, stands_on_tile, stands_elsewhere, has_more, visit_adds, entered_new}

-- each of some tiles has these spreads
abbrev pub EachHas : List Area → List Spread → List Alias → Type 0
EachHas tiles held l = (j : ℕ) (tile : Area) → slice_get tiles j ≡ Some tile → Has tile held l

-- what stands nowhere else is not in the block of other tiles
not_in_block :
    (a : Area) (tiles : List Area) (new : List Spread)
    → ((j : ℕ) (tile : Area) → slice_get tiles j ≡ Some tile → StaysApart a tile) → (x : Spread)
    → stands_in (block tiles new) (alias_on a x) ≡ false
not_in_block a [] new apart x = refl
not_in_block a (tile ∷ tiles) new apart x =
    list_any-append (same_alias (alias_on a x)) (map (alias_on tile) new) (block tiles new)
    ∙ or_from (stands_in (map (alias_on tile) new) (alias_on a x)) (stands_in (block tiles new) (alias_on a x))
    (stands_elsewhere a tile (apart 0 tile refl) x new)
    (not_in_block a tiles new (λ j other at. apart (suc j) other at) x)

-- a block has its row's spreads on each of its tiles
in_block :
    (tiles : List Area) (new : List Spread) → GrowApart tiles → (j : ℕ) (a : Area) → slice_get tiles j ≡ Some a
    → (x : Spread) → stands_in (block tiles new) (alias_on a x) ≡ list_any (same_spread x) new
in_block [] new apart j a at x = cc
in_block (tile ∷ tiles) new apart zero a at x =
    let here : tile ≡ a = same_Some tile a at in
    let others : (k : ℕ) (other : Area) → slice_get tiles k ≡ Some other → StaysApart a other =
    λ k other there. subst (λ t. StaysApart t other) here (head_apart tile tiles apart k other there).1 in
    list_any-append (same_alias (alias_on a x)) (map (alias_on tile) new) (block tiles new)
    ∙ ap₂ (λ b c. b || c)
    (ap (λ t. stands_in (map (alias_on t) new) (alias_on a x)) here ∙ stands_on_tile a x new)
    (not_in_block a tiles new others x)
    ∙ or-false (list_any (same_spread x) new)
in_block (tile ∷ tiles) new apart (suc j) a at x =
    list_any-append (same_alias (alias_on a x)) (map (alias_on tile) new) (block tiles new)
    ∙ ap₂ (λ b c. b || c) (stands_elsewhere a tile (head_apart tile tiles apart j a at).0 x new)
    (in_block tiles new (tail_apart tile tiles apart) j a at x)

pub visit_tiles-block :
    (e : Expr) (held : List Spread) (tiles : List Area) (l : List Alias) → GrowApart tiles → EachHas tiles held l
    → visit_tiles e tiles l ≡ l ++ block tiles (new_of e held)
visit_tiles-block e held [] l apart has = sym (append-nil l)
visit_tiles-block e held (tile ∷ tiles) l apart has =
    let here : visit e tile l ≡ l ++ map (alias_on tile) (new_of e held) = visit_adds tile e held l (has 0 tile refl) in
    let elsewhere : EachHas tiles held (visit e tile l) =
    λ j a at x.
    ap (λ m. stands_in m (alias_on a x)) here
    ∙ list_any-append (same_alias (alias_on a x)) l (map (alias_on tile) (new_of e held))
    ∙ ap₂ (λ b c. b || c) (has (suc j) a at x)
    (stands_elsewhere a tile (head_apart tile tiles apart j a at).0 x (new_of e held))
    ∙ or-false (list_any (same_spread x) held) in
    visit_tiles-block e held tiles (visit e tile l) (tail_apart tile tiles apart) elsewhere
    ∙ ap (λ m. m ++ block tiles (new_of e held)) here
    ∙ append_assoc l (map (alias_on tile) (new_of e held)) (block tiles (new_of e held))

pub each_has_more :
    (e : Expr) (held : List Spread) (tiles : List Area) (l : List Alias) → GrowApart tiles → EachHas tiles held l
    → EachHas tiles (enter e 0 held) (l ++ block tiles (new_of e held))
each_has_more e held tiles l apart has j a at x =
    has_more a held l (new_of e held) (block tiles (new_of e held)) (has j a at)
    (in_block tiles (new_of e held) apart j a at) x
    ∙ ap (λ m. list_any (same_spread x) m) (sym (entered_new e 0 held))

-- rows that are visited behind others add their blocks
pub visit_rows-blocks :
    (tiles : List Area) (roots : List Expr) (held : List Spread) (l : List Alias) → GrowApart tiles
    → EachHas tiles held l → visit_rows tiles roots l ≡ l ++ blocks tiles roots held
visit_rows-blocks tiles [] held l apart has = sym (append-nil l)
visit_rows-blocks tiles (e ∷ roots) held l apart has =
    ap (visit_rows tiles roots) (visit_tiles-block e held tiles l apart has)
    ∙ visit_rows-blocks tiles roots (enter e 0 held) (l ++ block tiles (new_of e held)) apart
    (each_has_more e held tiles l apart has)
    ∙ append_assoc l (block tiles (new_of e held)) (blocks tiles roots (enter e 0 held))

-- and each tile has what they entered
pub rows_held :
    (tiles : List Area) (roots : List Expr) (held : List Spread) (l : List Alias) → GrowApart tiles
    → EachHas tiles held l → EachHas tiles (enter_rows roots held) (l ++ blocks tiles roots held)
rows_held tiles [] held l apart has = subst (EachHas tiles held) (sym (append-nil l)) has
rows_held tiles (e ∷ roots) held l apart has =
    subst (EachHas tiles (enter_rows roots (enter e 0 held)))
    (append_assoc l (block tiles (new_of e held)) (blocks tiles roots (enter e 0 held)))
    (rows_held tiles roots (enter e 0 held) (l ++ block tiles (new_of e held)) apart
    (each_has_more e held tiles l apart has))

pub none_held : (tiles : List Area) → EachHas tiles [] []
none_held tiles j a at x = refl

pub aliases_of-blocks :
    (tiles : List Area) (roots : List Expr) → GrowApart tiles → aliases_of tiles roots ≡ blocks tiles roots []
unfolding aliases_of
aliases_of-blocks tiles roots apart = visit_rows-blocks tiles roots [] [] apart (none_held tiles)
