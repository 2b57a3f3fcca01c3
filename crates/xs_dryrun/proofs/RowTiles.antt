-- A row is filled tile by tile
use Rattle.std.proofs.Common.{◌≡◌, ◌<◌, ◌+◌, ◌-◌, ◌*◌, ◌%◌, ◌==◌, ◌++◌, ℕ, suc, Bool, true, false, if◌then◌else◌, Some, List, [], ◌∷◌, length, map, take, slice_get, refl, sym, ap, ap₂, ◌∙◌, subst, append_assoc, arith}
use Rattle.std.specs.List.{AllZip}
use Rattle.std.proofs.Math.Nat.{suc-mul}
use Rattle.std.proofs.lemmas.Nat.{mul-add-lt, mod-mul-add}
use Rattle.std.proofs.lemmas.Bool.{eq-eqb, ne_eqb}
use Rattle.std.proofs.lemmas.List.{append-nil, length_push, length-append, length-map, map-append}
use Rattle.xs_rect.specs.Area.{Area}
use Rattle.xs_meaning.specs.Expressions.{Expr}
use Rattle.xs_plan.specs.Draft.{Draft, LacksRoots, ends_after}
use Rattle.xs_demand.specs.Aliases.{Alias, alias, aliases_of, on_tiles}
use Rattle.xs_demand.specs.Blocks.{Spread}
use Rattle.xs_demand.specs.Shown.{StandsAt, root_aliases}
use Rattle.xs_dryrun.specs.declared.rows.Rows.{Rows}
use Rattle.xs_dryrun.specs.Filling.{number_at}
use Rattle.xs_dryrun.specs.Tile.{IsRowAt, FillsTile}
use Rattle.xs_dryrun.specs.Row.{IsRowStart, IsRowFilled, FillsRowTo}
use Rattle.xs_dryrun.proofs.TileRoots.{take_next, root_stands}

zip_push :
    (R : Alias → ℕ → Type 0) (xs : List Alias) (ks : List ℕ) (x : Alias) (k : ℕ) → AllZip R xs ks → R x k
    → AllZip R (xs ++ x ∷ []) (ks ++ k ∷ [])
zip_push R [] [] x k zip last = (last, tt)
zip_push R [] (m ∷ ks) x k zip last = absurd zip
zip_push R (y ∷ xs) [] x k zip last = absurd zip
zip_push R (y ∷ xs) (m ∷ ks) x k zip last = (zip.0, zip_push R xs ks x k zip.1 last)

pub zip_length : (R : Alias → ℕ → Type 0) (xs : List Alias) (ks : List ℕ) → AllZip R xs ks → length ks ≡ length xs
zip_length R [] [] zip = refl
zip_length R [] (m ∷ ks) zip = absurd zip
zip_length R (y ∷ xs) [] zip = absurd zip
zip_length R (y ∷ xs) (m ∷ ks) zip = ap suc (zip_length R xs ks zip.1)

pub length-root_aliases : (tiles : List Area) (roots : List Expr) → length (root_aliases tiles roots) ≡ length roots * length tiles
length-root_aliases tiles [] = omega arith
length-root_aliases tiles (e ∷ roots) =
    length-append (on_tiles tiles e) (root_aliases tiles roots)
    ∙ ap₂ (λ (m n : ℕ). m + n) (length-map tiles (alias e)) (length-root_aliases tiles roots)
    ∙ omega (arith, suc-mul (length roots) (length tiles))

-- ---- ends of rows

by_test : (b : Bool) (c : Bool) (xs ys : List ℕ) → b ≡ c → (if b then xs else ys) ≡ (if c then xs else ys)
by_test b c xs ys same = ap (λ (z : Bool). if z then xs else ys) same

-- within a row no end is added
no_end : (d : Draft) (row t : ℕ) → length d.plan.roots ≡ row * length d.plan.tiles + t → t + 1 < length d.plan.tiles
    → ends_after d.plan (length d.plan.roots + 1) ≡ d.plan.ends
no_end d row t many less =
    let n = length d.plan.tiles in
    let place : length d.plan.roots + 1 ≡ row * n + (t + 1) = omega (arith, many) in
    let rest : (length d.plan.roots + 1) % n ≡ t + 1 = ap (λ (k : ℕ). k % n) place ∙ mod-mul-add row n (t + 1) less in
    by_test ((length d.plan.roots + 1) % n == 0) false (d.plan.ends ++ length d.plan.entries ∷ []) d.plan.ends
    (ne_eqb ((length d.plan.roots + 1) % n) 0 (λ none. omega (arith, rest, none)))

-- and at its end one is
an_end : (d : Draft) (row t : ℕ) → length d.plan.roots ≡ row * length d.plan.tiles + t → t + 1 ≡ length d.plan.tiles
    → ends_after d.plan (length d.plan.roots + 1) ≡ d.plan.ends ++ length d.plan.entries ∷ []
an_end d row t many last =
    let n = length d.plan.tiles in
    let place : length d.plan.roots + 1 ≡ suc row * n + 0 = omega (arith, many, last, suc-mul row n) in
    let rest : (length d.plan.roots + 1) % n ≡ 0 = ap (λ (k : ℕ). k % n) place ∙ mod-mul-add (suc row) n 0 (omega (arith, last)) in
    by_test ((length d.plan.roots + 1) % n == 0) true (d.plan.ends ++ length d.plan.entries ∷ []) d.plan.ends
    (eq-eqb ((length d.plan.roots + 1) % n) 0 rest)

-- ---- tiles

module _
    (old : Draft) (l : List Spread) (rows : Rows) (before root : ℕ) where
  pub fills_none : FillsRowTo old l rows before root 0 old
  fills_none =
      record {
        tiles_kept = refl;
        tints_kept = refl;
        rows_kept = refl;
        fills = λ drawings roots e s. record {
          filling = s.filling;
          filled = omega (arith, s.filled);
          rooted = s.rooted;
          given =
              subst (λ (xs : List Alias). AllZip (StandsAt (aliases_of old.plan.tiles (roots ++ e ∷ []))) xs old.plan.roots)
              (sym (append-nil (root_aliases old.plan.tiles roots))) s.given;
          many =
              zip_length (StandsAt (aliases_of old.plan.tiles (roots ++ e ∷ []))) (root_aliases old.plan.tiles roots) old.plan.roots s.given
              ∙ length-root_aliases old.plan.tiles roots ∙ omega arith;
          within = λ less. refl;
          ended = λ none. absurd (omega (arith, none, s.some));
        };
      }

  module _
      (mid : Draft) (t : ℕ) (area : Area) (so_far : FillsRowTo old l rows before root t mid)
      (on : slice_get mid.plan.tiles t ≡ Some area) where
    module _ (drawings : ℕ) (roots : List Expr) (e : Expr) (s : IsRowStart drawings roots e l rows old before root) where
      abbrev state : IsRowFilled drawings roots e old l rows before t mid
      state = so_far.fills drawings roots e s

      pub is_row_at : t < length mid.plan.tiles → IsRowAt drawings roots e l rows mid before t root area
      is_row_at among =
          record {
            at = record { filling = state.filling; start = s.start; on = on; filled = state.filled };
            is_root = s.is_root;
            rooted = state.rooted;
            tile_is_next = ap (λ (k : ℕ). k % length mid.plan.tiles) state.many ∙ mod-mul-add (length roots) (length mid.plan.tiles) t among;
          }

      pub lacks_root : t < length mid.plan.tiles → LacksRoots mid
      lacks_root among =
          let fits = mul-add-lt (length roots) (length mid.plan.tiles) t old.rows s.room among in
          let product : length mid.plan.tiles * old.rows ≡ mid.rows * length mid.plan.tiles =
          ap (λ (k : ℕ). length mid.plan.tiles * k) (sym so_far.rows_kept) ∙ omega arith in
          omega (arith, state.many, fits, product)

      next_state : (new : Draft) → t < length mid.plan.tiles → FillsTile mid new l rows before t root area
          → IsRowFilled drawings roots e old l rows before (t + 1) new
      next_state new among tile =
          let d = tile.filled in
          let k = number_at rows root t in
          let at = is_row_at among in
          let done = tile.aliases.fills drawings roots e at.at in
          let only = tile.aliases.only in
          let all = aliases_of d.plan.tiles (roots ++ e ∷ []) in
          let tiles : d.plan.tiles ≡ mid.plan.tiles = ap (λ (x : Draft). x.plan.tiles) only in
          let same_roots : d.plan.roots ≡ mid.plan.roots = ap (λ (x : Draft). x.plan.roots) only in
          let same_ends : d.plan.ends ≡ mid.plan.ends = ap (λ (x : Draft). x.plan.ends) only in
          let many : length d.plan.roots ≡ length roots * length d.plan.tiles + t =
          ap length same_roots ∙ state.many ∙ ap (λ (xs : List Area). length roots * length xs + t) (sym tiles) in
          let one : suc t ≡ t + 1 = omega arith in
          let more : on_tiles (take t d.plan.tiles) e ++ alias e area ∷ [] ≡ on_tiles (take (t + 1) d.plan.tiles) e =
          sym (map-append (alias e) (take t d.plan.tiles) (area ∷ []))
          ∙ ap (map (alias e)) (sym (take_next d.plan.tiles t area (ap (λ (xs : List Area). slice_get xs t) tiles ∙ on)))
          ∙ ap (λ (n : ℕ). on_tiles (take n d.plan.tiles) e) one in
          let given_before : AllZip (StandsAt all) (root_aliases d.plan.tiles roots ++ on_tiles (take t d.plan.tiles) e) d.plan.roots =
          subst (λ (ks : List ℕ). AllZip (StandsAt all) (root_aliases d.plan.tiles roots ++ on_tiles (take t d.plan.tiles) e) ks) (sym same_roots)
          (subst (λ (xs : List Area). AllZip (StandsAt (aliases_of xs (roots ++ e ∷ []))) (root_aliases xs roots ++ on_tiles (take t xs) e) mid.plan.roots)
          (sym tiles) state.given) in
          let given_more : AllZip (StandsAt all) (root_aliases d.plan.tiles roots ++ on_tiles (take (t + 1) d.plan.tiles) e) (d.plan.roots ++ k ∷ []) =
          subst (λ (xs : List Alias). AllZip (StandsAt all) xs (d.plan.roots ++ k ∷ []))
          (append_assoc (root_aliases d.plan.tiles roots) (on_tiles (take t d.plan.tiles) e) (alias e area ∷ [])
          ∙ ap (λ (xs : List Alias). root_aliases d.plan.tiles roots ++ xs) more)
          (zip_push (StandsAt all) (root_aliases d.plan.tiles roots ++ on_tiles (take t d.plan.tiles) e) d.plan.roots (alias e area) k given_before
          (root_stands drawings roots e mid l rows before t root area d at tile.aliases)) in
          let here : t < length d.plan.tiles = omega (arith, among, ap length tiles) in
          subst (IsRowFilled drawings roots e old l rows before (t + 1)) (sym tile.is)
          (record {
            filling =
                record {
                  frame = done.0.frame;
                  entered = done.0.entered;
                  spreads = done.0.spreads;
                  numbers = done.0.numbers;
                  few = done.0.few;
                  tints = done.0.tints;
                  entries = done.0.entries;
                };
            filled = done.1 ∙ omega (arith, suc-mul t (length l - before), ap (λ (n : ℕ). n * (length l - before)) one);
            rooted = refl;
            given = given_more;
            many = length_push d.plan.roots k ∙ omega (arith, many);
            within = λ less.
                no_end d (length roots) t many less ∙ same_ends ∙ state.within among;
            ended = λ last.
                an_end d (length roots) t many last ∙ ap (λ (xs : List ℕ). xs ++ length d.plan.entries ∷ []) (same_ends ∙ state.within among);
          })

    pub fills_more : (new : Draft) → t < length mid.plan.tiles → FillsTile mid new l rows before t root area
        → FillsRowTo old l rows before root (t + 1) new
    fills_more new among tile =
        record {
          tiles_kept =
              ap (λ (x : Draft). x.plan.tiles) tile.is ∙ ap (λ (x : Draft). x.plan.tiles) tile.aliases.only ∙ so_far.tiles_kept;
          tints_kept =
              ap (λ (x : Draft). x.plan.tints) tile.is ∙ ap (λ (x : Draft). x.plan.tints) tile.aliases.only ∙ so_far.tints_kept;
          rows_kept = ap (λ (x : Draft). x.rows) tile.is ∙ ap (λ (x : Draft). x.rows) tile.aliases.only ∙ so_far.rows_kept;
          fills = λ drawings roots e s. next_state drawings roots e s new among tile;
        }
