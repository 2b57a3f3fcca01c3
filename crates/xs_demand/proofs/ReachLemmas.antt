-- The aliases of rows are what their roots reach
use Rattle.std.proofs.Common.{◌≡◌, ◌⊎◌, ◌≤◌, ◌+◌, ◌*◌, zero, suc, ℕ, List, [], ◌∷◌, ◌++◌, All, Contains, length, get_or, sym, ap, ◌∙◌, subst, inl, inr, arith, suc-mul}
use Rattle.std.proofs.lemmas.List.{length-map}
use Rattle.std.proofs.lemmas.List.Elements.{Contains-get_or}
use Rattle.std.proofs.lemmas.List.Sums.{sum_by-cons}
use Rattle.xs_rect.specs.Area.{Area}
use Rattle.xs_meaning.specs.Expressions.{Expr}
use Rattle.xs_demand.specs.Aliases.{Alias, alias, visit, visit_tiles, visit_rows, aliases_of, on_tiles, inputs_in, inputs_of, size_of, Leads, Reaches, RootReaches}
use Rattle.xs_demand.specs.Shown.{root_aliases}
use Rattle.xs_demand.proofs.PlaceLemmas.{place_of, contained, only, from_map, Contains-map, from_flat_map, Contains-flat_map}
use Rattle.xs_demand.proofs.VisitLemmas.{AreFounded, StandApart, Visits, visits, visits_tiles, visits_rows, sizes}

-- ---- a list where inputs stand first contains what its aliases reach

contains_led :
    (m : List Alias) → AreFounded m → (steps : ℕ) (x y : Alias) → Contains m x → Leads steps x y → Contains m y
unfolding Leads
contains_led m founded zero x y there way = subst (Contains m) way there
contains_led m founded (suc steps) x y there way =
    let place = place_of m x there in
    let input = founded x place.0 place.2 way.0 way.1 in
    contains_led m founded steps way.0 y (contained m input.0 way.0 input.2) way.2

pub contains_reached : (m : List Alias) → AreFounded m → (x y : Alias) → Contains m x → Reaches x y → Contains m y
contains_reached m founded x y there reaches = contains_led m founded reaches.steps x y there reaches.way

pub founded_nil : AreFounded []
founded_nil x k at input among = cc

pub apart_nil : StandApart []
apart_nil j k d less below = absurd (omega arith)

-- ---- rows

-- what is reached from a root's tiles the root reaches
pub root_of_tiles : (tiles : List Area) (e : Expr) (x y : Alias) → Contains (on_tiles tiles e) x → Reaches x y → RootReaches tiles e y
root_of_tiles tiles e x y among reaches =
    let on = from_map (alias e) tiles x among in
    record { tile = on.0; among = on.1; reaches = subst (λ z. Reaches z y) (sym on.2) reaches }

-- and a list that has the root on all tiles contains it
pub contains_of_root :
    (tiles : List Area) (e : Expr) (m : List Alias) → AreFounded m → ((x : Alias) → Contains (on_tiles tiles e) x → Contains m x)
    → (y : Alias) → RootReaches tiles e y → Contains m y
contains_of_root tiles e m founded there y reaches =
    contains_reached m founded (alias e reaches.tile) y
    (there (alias e reaches.tile) (Contains-map (alias e) tiles reaches.tile reaches.among)) reaches.reaches

abbrev pub SomeRootReaches : List Area → List Expr → Alias → Type 0
SomeRootReaches tiles roots y = (e : Expr) × Contains roots e × RootReaches tiles e y

pub reached_by_root :
    (tiles : List Area) (roots : List Expr) (y : Alias) → Contains (aliases_of tiles roots) y → SomeRootReaches tiles roots y
unfolding aliases_of
reached_by_root tiles roots y there =
    let v = visits_rows tiles roots [] in
    let by = v.reached y (subst (λ z. Contains z y) v.is there) in
    let root = from_flat_map (on_tiles tiles) roots by.0 by.1 in
    (root.0, root.1, root_of_tiles tiles root.0 by.0 y root.2 by.2)

pub contains_what_roots_reach :
    (tiles : List Area) (roots : List Expr) (y : Alias) → SomeRootReaches tiles roots y → Contains (aliases_of tiles roots) y
unfolding aliases_of
contains_what_roots_reach tiles roots y by =
    let v = visits_rows tiles roots [] in
    contains_of_root tiles by.0 (visit_rows tiles roots []) (v.founded founded_nil)
    (λ x among. v.there x (Contains-flat_map (on_tiles tiles) roots by.0 x by.1 among)) y by.2

pub reached_by_visit :
    (e : Expr) (rect : Area) (l : List Alias)
    → (added : List Alias) × (visit e rect l ≡ l ++ added) × All (Reaches (alias e rect)) added
reached_by_visit e rect l =
    let v = visits e rect l in (
      v.added,
      v.is,
      λ k d below.
          let by = v.reached (get_or v.added k d) (Contains-get_or v.added k d below) in
          subst (λ z. Reaches z (get_or v.added k d)) (sym (only (alias e rect) by.0 by.1)) by.2,
    )

-- ---- the whole list

pub aliases_visited : (tiles : List Area) (roots : List Expr) → Visits (root_aliases tiles roots) [] (aliases_of tiles roots)
unfolding aliases_of
aliases_visited tiles roots = visits_rows tiles roots []

pub aliases_apart : (tiles : List Area) (roots : List Expr) → StandApart (aliases_of tiles roots)
aliases_apart tiles roots = (aliases_visited tiles roots).apart apart_nil

pub aliases_founded : (tiles : List Area) (roots : List Expr) → AreFounded (aliases_of tiles roots)
aliases_founded tiles roots = (aliases_visited tiles roots).founded founded_nil

pub aliases_read :
    (tiles : List Area) (roots : List Expr) (y : Alias) → Contains (aliases_of tiles roots) y
    → Contains (root_aliases tiles roots) y
    ⊎ ((x : Alias) × Contains (aliases_of tiles roots) x × Contains (inputs_of x) y)
aliases_read tiles roots y there =
    let v = aliases_visited tiles roots in
    elim (v.read y (subst (λ z. Contains z y) v.is there)) [
      | inl root ↦ inl root
      | inr by ↦ inr (by.0, subst (λ z. Contains z by.0) (sym v.is) by.1, by.2)
    ]

-- ---- how much a row adds

sizes-on_tiles : (tiles : List Area) (e : Expr) → sizes (on_tiles tiles e) ≡ length tiles * size_of e
sizes-on_tiles [] e = omega arith
sizes-on_tiles (tile ∷ tiles) e =
    sum_by-cons (λ (x : Alias). size_of x.expr) (alias e tile) (on_tiles tiles e)
    ∙ ap (λ n. size_of e + n) (sizes-on_tiles tiles e)
    ∙ omega (arith, suc-mul (length tiles) (size_of e))

pub few_aliases : (e : Expr) (tiles : List Area) (l : List Alias) → length (visit_tiles e tiles l) ≤ length l + length tiles * size_of e
few_aliases e tiles l =
    let few = (visits_tiles e tiles l).few in
    omega (arith, sizes-on_tiles tiles e)

pub few_inputs :
    (e : Expr) (tiles : List Area) (l : List Alias)
    → inputs_in (visit_tiles e tiles l) + length tiles ≤ inputs_in l + length tiles * size_of e
few_inputs e tiles l =
    let few = (visits_tiles e tiles l).few_inputs in
    omega (arith, sizes-on_tiles tiles e, length-map tiles (alias e))
