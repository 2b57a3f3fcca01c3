-- The row after which an alias is there is the first whose root reaches it
use Rattle.std.proofs.Common.{◌≡◌, ◌<◌, ◌≤◌, ◌+◌, zero, suc, ℕ, nat_le, List, [], ◌∷◌, Contains, length, count_by, refl, sym, ap, ◌∙◌, subst, inl, inr, cond, arith}
use Rattle.std.proofs.lemmas.Bool.{cases_lt, le-leb, lt-leb}
use Rattle.std.proofs.lemmas.List.{length-append}
use Rattle.std.proofs.lemmas.List.Sums.{sum_by-cons}
use Rattle.std.proofs.lemmas.Option.{slice_get_within}
use Rattle.xs_rect.specs.Area.{Area}
use Rattle.xs_meaning.specs.Expressions.{Expr}
use Rattle.xs_demand.specs.Aliases.{Alias, visit_tiles, visit_rows, aliases_of, RootReaches}
use Rattle.xs_demand.specs.Limits.{root_in}
use Rattle.xs_demand.specs.Shown.{StandsAt, ShowsRoots, ends_of}
use Rattle.xs_plan.specs.Record.{PlanRecord}
use Rattle.xs_plan.specs.Sections.{first_row}
use Rattle.xs_demand.proofs.PlaceLemmas.{place_of, place-append, before_or_behind, same_place}
use Rattle.xs_demand.proofs.VisitLemmas.{AreFounded, StandApart, visits_tiles, visits_rows}
use Rattle.xs_demand.proofs.ReachLemmas.{root_of_tiles, contains_of_root, founded_nil, apart_nil}

-- so many rows end before a place
abbrev pub ended : List ℕ → ℕ → ℕ
ended ends k = count_by (λ end. nat_le end k) ends

pub ended_before : (end : ℕ) (ends : List ℕ) (k : ℕ) → end ≤ k → ended (end ∷ ends) k ≡ suc (ended ends k)
ended_before end ends k less =
    sum_by-cons (λ end. cond (nat_le end k) 1 0) end ends
    ∙ ap (λ b. cond b 1 0 + ended ends k) (le-leb end k less)
    ∙ omega arith

pub not_ended : (end : ℕ) (ends : List ℕ) (k : ℕ) → k < end → ended (end ∷ ends) k ≡ ended ends k
not_ended end ends k more =
    sum_by-cons (λ end. cond (nat_le end k) 1 0) end ends
    ∙ ap (λ b. cond b 1 0 + ended ends k) (lt-leb end k more)
    ∙ omega arith

-- no row ends before a place of an alias that was there at its start
pub none_ended : (tiles : List Area) (roots : List Expr) (l : List Alias) (k : ℕ) → k < length l → ended (ends_of tiles roots l) k ≡ 0
none_ended tiles [] l k below = refl
none_ended tiles (e ∷ roots) l k below =
    let m = visit_tiles e tiles l in
    let v = visits_tiles e tiles l in
    let grows : length l ≤ length m = omega (arith, ap length v.is, length-append l v.added) in
    not_ended (length m) (ends_of tiles roots m) k (omega arith) ∙ none_ended tiles roots m k (omega arith)

-- an alias that a row adds its root reaches
reached_in :
    (tiles : List Area) (e : Expr) (roots : List Expr) (l : List Alias) (x : Alias) (k : ℕ) → length l ≤ k
    → k < length (visit_tiles e tiles l) → StandsAt (visit_rows tiles roots (visit_tiles e tiles l)) x k → RootReaches tiles e x
reached_in tiles e roots l x k past here at =
    let m = visit_tiles e tiles l in
    let v = visits_tiles e tiles l in
    let w = visits_rows tiles roots m in
    let in_row : Contains v.added x =
    elim (before_or_behind m w.added k x (subst (λ z. StandsAt z x k) w.is at)) [
      | inl row ↦ elim (before_or_behind l v.added k x (subst (λ z. StandsAt z x k) v.is row)) [
        | inl old ↦ absurd (omega (arith, slice_get_within l k x old))
        | inr new ↦ new.1
      ]
      | inr later ↦ absurd (omega (arith, later.0))
    ] in
    let by = v.reached x in_row in
    root_of_tiles tiles e by.0 x by.1 by.2

-- the root of the row after which an alias is there reaches it
reached_behind :
    (tiles : List Area) (roots : List Expr) (l : List Alias) (x : Alias) (k : ℕ) → length l ≤ k
    → StandsAt (visit_rows tiles roots l) x k → RootReaches tiles (root_in roots (ended (ends_of tiles roots l) k)) x
reached_behind tiles [] l x k past at = absurd (omega (arith, slice_get_within l k x at))
reached_behind tiles (e ∷ roots) l x k past at =
    let m = visit_tiles e tiles l in
    let ends = ends_of tiles roots m in
    elim (cases_lt k (length m)) [
      | inl here ↦
          subst (λ row. RootReaches tiles (root_in (e ∷ roots) row) x)
          (sym (not_ended (length m) ends k here ∙ none_ended tiles roots m k here))
          (reached_in tiles e roots l x k past here at)
      | inr later ↦
          subst (λ row. RootReaches tiles (root_in (e ∷ roots) row) x) (sym (ended_before (length m) ends k later))
          (reached_behind tiles roots m x k later at)
    ]

-- where a row ends before a place, the next one's first rows end before it
ends_first :
    (tiles : List Area) (e : Expr) (roots : List Expr) (l : List Alias) (k row : ℕ) → row < ended (ends_of tiles (e ∷ roots) l) k
    → (length (visit_tiles e tiles l) ≤ k) × (row ≤ ended (ends_of tiles roots (visit_tiles e tiles l)) k)
ends_first tiles e roots l k row before =
    let m = visit_tiles e tiles l in
    let ends = ends_of tiles roots m in
    elim (cases_lt k (length m)) [
      | inl here ↦ absurd (omega (arith, not_ended (length m) ends k here, none_ended tiles roots m k here))
      | inr later ↦ (later, omega (arith, ended_before (length m) ends k later))
    ]

-- and no earlier root does
not_reached_before :
    (tiles : List Area) (roots : List Expr) (l : List Alias) → AreFounded l → StandApart (visit_rows tiles roots l)
    → (x : Alias) (k : ℕ) → StandsAt (visit_rows tiles roots l) x k → (row : ℕ) → row < ended (ends_of tiles roots l) k
    → RootReaches tiles (root_in roots row) x → ⊥
not_reached_before tiles [] l founded apart x k at row before reaches = absurd (omega arith)
not_reached_before tiles (e ∷ roots) l founded apart x k at zero before reaches =
    let m = visit_tiles e tiles l in
    let v = visits_tiles e tiles l in
    let w = visits_rows tiles roots m in
    let later = ends_first tiles e roots l k zero before in
    let place = place_of m x (contains_of_root tiles e m (v.founded founded) v.there x reaches) in
    let early : StandsAt (visit_rows tiles roots m) x place.0 =
    subst (λ z. StandsAt z x place.0) (sym w.is) (place-append m w.added place.0 x place.2) in
    let same : place.0 ≡ k = same_place (visit_rows tiles roots m) apart place.0 k x early at in
    omega (arith, place.1, later.0)
not_reached_before tiles (e ∷ roots) l founded apart x k at (suc row) before reaches =
    let m = visit_tiles e tiles l in
    let v = visits_tiles e tiles l in
    let later = ends_first tiles e roots l k (suc row) before in
    not_reached_before tiles roots m (v.founded founded) apart x k at row (omega (arith, later.1)) reaches

-- an alias's first row is right
pub first_is_right :
    (tiles : List Area) (roots : List Expr) (p : PlanRecord) → ShowsRoots tiles roots p
    → (x : Alias) (k : ℕ) → StandsAt (aliases_of tiles roots) x k
    → RootReaches tiles (root_in roots (first_row p k)) x
    × ((row : ℕ) → row < first_row p k → RootReaches tiles (root_in roots row) x → ⊥)
unfolding aliases_of
first_is_right tiles roots p shows x k at =
    let row : first_row p k ≡ ended (ends_of tiles roots []) k = ap (λ ends. ended ends k) shows.ends in (
      subst (λ n. RootReaches tiles (root_in roots n) x) (sym row) (reached_behind tiles roots [] x k (omega arith) at),
      λ n before. not_reached_before tiles roots [] founded_nil ((visits_rows tiles roots []).apart apart_nil) x k at n
          (subst (λ m. n < m) row before),
    )
