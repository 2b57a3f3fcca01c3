-- How many aliases, rows and reads there are in a plan that shows the roots of rows
use Rattle.std.proofs.Common.{◌≡◌, ◌<◌, ◌+◌, ◌*◌, zero, suc, ℕ, Some, List, [], ◌∷◌, length, take, flat_map, slice_get, refl, sym, ap, ap₂, ◌∙◌, arith, add-one, suc-mul}
use Rattle.std.proofs.lemmas.List.{length-append, length-map}
use Rattle.std.proofs.lemmas.List.Concat.{length-flat_map}
use Rattle.std.proofs.lemmas.Slice.Zip.{AllZip-long}
use Rattle.xs_rect.specs.Area.{Area}
use Rattle.xs_meaning.specs.Expressions.{Expr}
use Rattle.xs_plan.specs.Record.{PlanRecord, rows_in}
use Rattle.xs_plan.specs.Reads.{port_sources, reads_in}
use Rattle.xs_demand.specs.Aliases.{Alias, alias, inputs_of, inputs_in, visit_tiles, visit_rows, aliases_of, on_tiles}
use Rattle.xs_demand.specs.Shown.{root_aliases, ends_of, StandsAt, ShowsAlias, ShowsRoots, tints_shown}
use Rattle.xs_demand.proofs.ShownLemmas.{inputs_by_places}

length-root_aliases : (tiles : List Area) (roots : List Expr) → length (root_aliases tiles roots) ≡ length roots * length tiles
length-root_aliases tiles [] = omega arith
length-root_aliases tiles (e ∷ roots) =
    length-append (on_tiles tiles e) (root_aliases tiles roots)
    ∙ ap₂ (λ m n. m + n) (length-map tiles (alias e)) (length-root_aliases tiles roots)
    ∙ omega (arith, suc-mul (length roots) (length tiles))

length-ends_of : (tiles : List Area) (roots : List Expr) (l : List Alias) → length (ends_of tiles roots l) ≡ length roots
length-ends_of tiles [] l = refl
length-ends_of tiles (e ∷ roots) l = ap (λ n. suc n) (length-ends_of tiles roots (visit_tiles e tiles l))

ends_of-at :
    (tiles : List Area) (roots : List Expr) (l : List Alias) (row : ℕ) → row < length roots
    → slice_get (ends_of tiles roots l) row ≡ Some (length (visit_rows tiles (take (suc row) roots) l))
ends_of-at tiles [] l row there = absurd (omega arith)
ends_of-at tiles (e ∷ roots) l zero there = refl
ends_of-at tiles (e ∷ roots) l (suc row) there = ends_of-at tiles roots (visit_tiles e tiles l) row (omega arith)

module _ (tiles : List Area) (roots : List Expr) (p : PlanRecord) (shows : ShowsRoots tiles roots p) where
  pub aliases_shown : length p.entries ≡ length (aliases_of tiles roots)
  aliases_shown =
      AllZip-long (ShowsAlias (aliases_of tiles roots) (tints_shown p)) (aliases_of tiles roots) p.entries shows.entries

  pub roots_shown : length p.roots ≡ length roots * length tiles
  roots_shown =
      AllZip-long (StandsAt (aliases_of tiles roots)) (root_aliases tiles roots) p.roots shows.rows
      ∙ length-root_aliases tiles roots

  pub rows_shown : rows_in p ≡ length roots
  rows_shown = ap length shows.ends ∙ length-ends_of tiles roots []

  pub ends_shown : (row : ℕ) → row < length roots → slice_get p.ends row ≡ Some (length (visit_rows tiles (take (row + 1) roots) []))
  ends_shown row there =
      ap (λ ends. slice_get ends row) shows.ends
      ∙ ends_of-at tiles roots [] row there
      ∙ ap (λ n. Some (length (visit_rows tiles (take n roots) []))) (sym (add-one row))

  pub reads_shown : reads_in p ≡ inputs_in (aliases_of tiles roots) + length roots * length tiles
  reads_shown =
      let l = aliases_of tiles roots in
      length-append (port_sources p.entries) p.roots
      ∙ ap₂ (λ m n. m + n)
      (AllZip-long (StandsAt l) (flat_map inputs_of l) (port_sources p.entries)
      (inputs_by_places l (tints_shown p) l p.entries shows.entries)
      ∙ length-flat_map inputs_of l)
      roots_shown
