-- What visits add on one tile
use Rattle.std.proofs.Common.{◌≡◌, ℕ, ◌+◌, ◌==◌, Bool, true, false, ◌&&◌, ◌||◌, if◌then◌else◌, List, [], ◌∷◌, ◌++◌, length, map, drop, refl, sym, ap, ap₂, ◌∙◌, subst}
use Rattle.std.specs.List.{list_any}
use Rattle.std.proofs.lemmas.Bool.{false_from_ne_true, and_right, or_from}
use Rattle.std.proofs.lemmas.Bool.Decides.{same_from_decides, Decides-like, Decides-eqb}
use Rattle.std.proofs.lemmas.List.{append-nil, append_assoc, map-append, drop_at}
use Rattle.std.proofs.lemmas.List.Folds.{list_any-append}
use Rattle.xs_rect.specs.Area.{Area, grown}
use Rattle.xs_meaning.specs.Expressions.{Expr, Clear, Leaf, Tinted, Card, Pair, Blur}
use Rattle.xs_demand.specs.Same.{same_rect, same_expr}
use Rattle.xs_demand.specs.Aliases.{Alias, same_alias, stands_in, visiting, visit}
use Rattle.xs_demand.specs.Blocks.{Spread, spread, same_spread, entering, enter, new_of, alias_on}
use Rattle.xs_demand.proofs.SameLemmas.{Decides-same_rect}
use Rattle.xs_demand.proofs.GrownTiles.{StaysApart, grown_twice, not_grown, same_growth}

-- ---- one tile and two

same_grown : (tile : Area) (g m : ℕ) → same_rect (grown tile g) (grown tile m) ≡ (g == m)
same_grown tile g m =
    same_from_decides (same_rect (grown tile g) (grown tile m)) (g == m)
    (Decides-like (same_rect (grown tile g) (grown tile m)) (same_growth tile g m) (ap (grown tile))
    (Decides-same_rect (grown tile g) (grown tile m))) (Decides-eqb g m)

same_on_tile : (tile : Area) (x y : Spread) → same_alias (alias_on tile x) (alias_on tile y) ≡ same_spread x y
same_on_tile tile x y = ap (λ b. same_expr x.expr y.expr && b) (same_grown tile x.growth y.growth)

-- a tile has what stands on it
pub stands_on_tile :
    (tile : Area) (x : Spread) (new : List Spread)
    → stands_in (map (alias_on tile) new) (alias_on tile x) ≡ list_any (same_spread x) new
stands_on_tile tile x [] = refl
stands_on_tile tile x (y ∷ new) = ap₂ (λ b c. b || c) (same_on_tile tile x y) (stands_on_tile tile x new)

-- and not what stands on another
pub stands_elsewhere :
    (a tile : Area) → StaysApart a tile → (x : Spread) (new : List Spread)
    → stands_in (map (alias_on tile) new) (alias_on a x) ≡ false
stands_elsewhere a tile apart x [] = refl
stands_elsewhere a tile apart x (y ∷ new) =
    or_from (same_alias (alias_on a x) (alias_on tile y)) (stands_in (map (alias_on tile) new) (alias_on a x))
    (and_right (same_expr x.expr y.expr) (same_rect (grown a x.growth) (grown tile y.growth))
    (false_from_ne_true (same_rect (grown a x.growth) (grown tile y.growth))
    (λ same. apart x.growth y.growth ((Decides-same_rect (grown a x.growth) (grown tile y.growth)).0 same))))
    (stands_elsewhere a tile apart x new)

-- ---- what a visit adds

-- on a tile, a list has exactly these spreads
abbrev pub Has : Area → List Spread → List Alias → Type 0
Has tile held l = (x : Spread) → stands_in l (alias_on tile x) ≡ list_any (same_spread x) held

-- both lists gain the same spreads
pub record Gains (tile : Area) (held entered : List Spread) (l visited : List Alias) : Type 0 where
  pub new : List Spread
  pub enters : entered ≡ held ++ new
  pub visits : visited ≡ l ++ map (alias_on tile) new

gains_none : (tile : Area) (held : List Spread) (l : List Alias) → Gains tile held held l l
gains_none tile held l = record { new = []; enters = sym (append-nil held); visits = sym (append-nil l) }

gains_more :
    (tile : Area) (held first second : List Spread) (l one two : List Alias) → Gains tile held first l one
    → Gains tile first second one two → Gains tile held second l two
gains_more tile held first second l one two before after =
    record {
      new = before.new ++ after.new;
      enters =
          after.enters ∙ ap (λ m. m ++ after.new) before.enters ∙ append_assoc held before.new after.new;
      visits =
          after.visits ∙ ap (λ m. m ++ map (alias_on tile) after.new) before.visits
          ∙ append_assoc l (map (alias_on tile) before.new) (map (alias_on tile) after.new)
          ∙ ap (λ m. l ++ m) (sym (map-append (alias_on tile) before.new after.new));
    }

pub has_more :
    (tile : Area) (held : List Spread) (l : List Alias) (new : List Spread) (more : List Alias)
    → Has tile held l → ((x : Spread) → stands_in more (alias_on tile x) ≡ list_any (same_spread x) new)
    → Has tile (held ++ new) (l ++ more)
has_more tile held l new more has gained x =
    list_any-append (same_alias (alias_on tile x)) l more ∙ ap₂ (λ b c. b || c) (has x) (gained x)
    ∙ sym (list_any-append (same_spread x) held new)

has_gained :
    (tile : Area) (held entered : List Spread) (l visited : List Alias) → Has tile held l
    → Gains tile held entered l visited → Has tile entered visited
has_gained tile held entered l visited has gain x =
    ap (λ m. stands_in m (alias_on tile x)) gain.visits
    ∙ has_more tile held l gain.new (map (alias_on tile) gain.new) has (λ y. stands_on_tile tile y gain.new) x
    ∙ ap (λ m. list_any (same_spread x) m) (sym gain.enters)

gains_by :
    (tile : Area) (held entered : List Spread) (l visited : List Alias) (x : Spread) (stands enters : Bool)
    → stands ≡ enters → Gains tile held entered l visited
    → Gains tile held (if enters then held else entered ++ x ∷ []) l (if stands then l else visited ++ alias_on tile x ∷ [])
gains_by tile held entered l visited x true true same gain = gains_none tile held l
gains_by tile held entered l visited x false false same gain =
    gains_more tile held entered (entered ++ x ∷ []) l visited (visited ++ alias_on tile x ∷ []) gain
    (record { new = x ∷ []; enters = refl; visits = refl })
gains_by tile held entered l visited x true false same gain = cc
gains_by tile held entered l visited x false true same gain = cc

gains_visiting :
    (tile : Area) (held entered : List Spread) (l visited : List Alias) (x : Spread) → Has tile held l
    → Gains tile held entered l visited
    → Gains tile held (entering x held entered) l (visiting (alias_on tile x) l visited)
gains_visiting tile held entered l visited x has gain =
    gains_by tile held entered l visited x (stands_in l (alias_on tile x)) (list_any (same_spread x) held) (has x) gain

gains_one :
    (tile : Area) (held : List Spread) (l : List Alias) (x : Spread) → Has tile held l
    → Gains tile held (entering x held held) l (visiting (alias_on tile x) l l)
gains_one tile held l x has = gains_visiting tile held held l l x has (gains_none tile held l)

pub visit_gains :
    (tile : Area) (e : Expr) (g : ℕ) (held : List Spread) (l : List Alias) → Has tile held l
    → Gains tile held (enter e g held) l (visit e (grown tile g) l)
unfolding enter visit
visit_gains tile Clear g held l has = gains_one tile held l (spread Clear g) has
visit_gains tile (Leaf d at) g held l has = gains_one tile held l (spread (Leaf d at) g) has
visit_gains tile (Tinted d at tint) g held l has = gains_one tile held l (spread (Tinted d at tint) g) has
visit_gains tile (Card pixel) g held l has = gains_one tile held l (spread (Card pixel) g) has
visit_gains tile (Pair op a b) g held l has =
    let first = visit_gains tile a g held l has in
    let middle = has_gained tile held (enter a g held) l (visit a (grown tile g) l) has first in
    let second = visit_gains tile b g (enter a g held) (visit a (grown tile g) l) middle in
    gains_visiting tile held (enter b g (enter a g held)) l (visit b (grown tile g) (visit a (grown tile g) l))
    (spread (Pair op a b) g) has
    (gains_more tile held (enter a g held) (enter b g (enter a g held)) l (visit a (grown tile g) l)
    (visit b (grown tile g) (visit a (grown tile g) l)) first second)
visit_gains tile (Blur n a) g held l has =
    gains_visiting tile held (enter a (g + n) held) l (visit a (grown (grown tile g) n) l) (spread (Blur n a) g) has
    (subst (λ r. Gains tile held (enter a (g + n) held) l (visit a r l)) (sym (grown_twice tile g n))
    (visit_gains tile a (g + n) held l has))

-- ---- what stands stays, in front

enters_by :
    (held entered : List Spread) (x : Spread) (stands : Bool) → (new : List Spread) × (entered ≡ held ++ new)
    → (new : List Spread) × ((if stands then held else entered ++ x ∷ []) ≡ held ++ new)
enters_by held entered x true before = ([], sym (append-nil held))
enters_by held entered x false before =
    (before.0 ++ x ∷ [], ap (λ m. m ++ x ∷ []) before.1 ∙ append_assoc held before.0 (x ∷ []))

enters_one :
    (held : List Spread) (x : Spread) → (new : List Spread) × (entering x held held ≡ held ++ new)
enters_one held x = enters_by held held x (list_any (same_spread x) held) ([], sym (append-nil held))

enters_behind : (e : Expr) (g : ℕ) (held : List Spread) → (new : List Spread) × (enter e g held ≡ held ++ new)
unfolding enter
enters_behind Clear g held = enters_one held (spread Clear g)
enters_behind (Leaf d at) g held = enters_one held (spread (Leaf d at) g)
enters_behind (Tinted d at tint) g held = enters_one held (spread (Tinted d at tint) g)
enters_behind (Card pixel) g held = enters_one held (spread (Card pixel) g)
enters_behind (Pair op a b) g held =
    let first = enters_behind a g held in
    let second = enters_behind b g (enter a g held) in
    enters_by held (enter b g (enter a g held)) (spread (Pair op a b) g)
    (list_any (same_spread (spread (Pair op a b) g)) held)
    (first.0 ++ second.0, second.1 ∙ ap (λ m. m ++ second.0) first.1 ∙ append_assoc held first.0 second.0)
enters_behind (Blur n a) g held =
    enters_by held (enter a (g + n) held) (spread (Blur n a) g) (list_any (same_spread (spread (Blur n a) g)) held)
    (enters_behind a (g + n) held)

pub entered_new : (e : Expr) (g : ℕ) (held : List Spread) → enter e g held ≡ held ++ drop (length held) (enter e g held)
entered_new e g held =
    let new = enters_behind e g held in
    new.1 ∙ ap (λ m. held ++ m) (sym (ap (drop (length held)) new.1 ∙ drop_at held new.0 (length held) refl))

-- what a row adds on a tile where the earlier ones entered these spreads
pub visit_adds :
    (tile : Area) (e : Expr) (held : List Spread) (l : List Alias) → Has tile held l
    → visit e tile l ≡ l ++ map (alias_on tile) (new_of e held)
visit_adds tile e held l has =
    let gain = visit_gains tile e 0 held l has in
    let new : new_of e held ≡ gain.new = ap (drop (length held)) gain.enters ∙ drop_at held gain.new (length held) refl in
    ap (λ r. visit e r l) (sym (not_grown tile)) ∙ gain.visits ∙ ap (λ m. l ++ map (alias_on tile) m) (sym new)
