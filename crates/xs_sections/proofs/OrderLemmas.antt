-- Lemmas on the rows of a section in an order
use Rattle.std.proofs.Common.{◌≡◌, ◌≢◌, ◌<◌, ◌≤◌, ◌+◌, ◌-◌, ◌*◌, min, ℕ, List, [], ◌∷◌, ◌++◌, map, slice_index, refl, sym, ◌∙◌, arith}
use Rattle.std.specs.List.{range_with_len}
use Rattle.std.proofs.lemmas.List.FromFn.{map-range_with_len_more, length-map-range_with_len, get_or-map-range_with_len}
use Rattle.xs_base.specs.declared.limits.TheConstants.{SECTION_ROWS}
use Rattle.xs_plan.specs.Record.{PlanRecord, rows_in}
use Rattle.xs_sections.specs.declared.order.Order.{Order}
use Rattle.xs_sections.specs.declared.order.Order.TheVariants.{FirstFirst, LastFirst}
use Rattle.xs_sections.specs.Orders.{IsOrder, row_at}

abbrev pub ordered : Order → ℕ → ℕ → ℕ → List ℕ
ordered order first rows n = map (λ i. row_at order first rows i) (range_with_len 0 n)

pub ordered_more : (order : Order) (first rows n : ℕ) → ordered order first rows (n + 1) ≡ ordered order first rows n ++ row_at order first rows n ∷ []
ordered_more order first rows n = map-range_with_len_more (λ i. row_at order first rows i) 0 n n (omega arith)

at_place : (order : Order) (first rows i : ℕ) → i < rows → slice_index (ordered order first rows rows) i ≡ row_at order first rows i
at_place order first rows i less = get_or-map-range_with_len (λ j. row_at order first rows j) 0 rows i i 0 less (omega arith)

row_from : (order : Order) (first rows i : ℕ) → i < rows → first ≤ row_at order first rows i
row_from FirstFirst first rows i less = omega arith
row_from LastFirst first rows i less = omega arith

row_below : (order : Order) (first rows i : ℕ) → i < rows → row_at order first rows i < first + rows
row_below FirstFirst first rows i less = omega (arith, less)
row_below LastFirst first rows i less = omega (arith, less)

row_once : (order : Order) (first rows i j : ℕ) → i < j → j < rows → row_at order first rows i ≢ row_at order first rows j
row_once FirstFirst first rows i j less there same = omega (arith, less, same)
row_once LastFirst first rows i j less there same = omega (arith, less, there, same)

row_place : (order : Order) (first rows row : ℕ) → first ≤ row → row < first + rows → (i : ℕ) × (i < rows) × (row_at order first rows i ≡ row)
row_place FirstFirst first rows row from below = (row - first, omega (arith, from, below), omega (arith, from))
row_place LastFirst first rows row from below = (rows - 1 - (row - first), omega (arith, from, below), omega (arith, from, below))

pub is_order : (p : PlanRecord) (s : ℕ) (order : Order) (items : List ℕ) → s * SECTION_ROWS < rows_in p
    → items ≡ ordered order (s * SECTION_ROWS) (min SECTION_ROWS (rows_in p - s * SECTION_ROWS)) (min SECTION_ROWS (rows_in p - s * SECTION_ROWS))
    → IsOrder p s items
is_order p s order items some is =
    let first = s * SECTION_ROWS in
    let rows = min SECTION_ROWS (rows_in p - first) in
    let here : IsOrder p s (ordered order first rows rows) = ordered_is p s order first rows some refl refl in
    rw is here
  where
    ordered_is : (p : PlanRecord) (s : ℕ) (order : Order) (first rows : ℕ) → first < rows_in p → first ≡ s * SECTION_ROWS
        → rows ≡ min SECTION_ROWS (rows_in p - first) → IsOrder p s (ordered order first rows rows)
    ordered_is p s order first rows some start count =
        let many = length-map-range_with_len (λ i. row_at order first rows i) 0 rows in
        record {
          there = λ i less.
              let in_rows : i < rows = omega (arith, less, many) in
              omega (arith, at_place order first rows i in_rows, row_below order first rows i in_rows, count, some);
          within = λ i less.
              let in_rows : i < rows = omega (arith, less, many) in
              omega (
                arith,
                at_place order first rows i in_rows,
                row_from order first rows i in_rows,
                row_below order first rows i in_rows,
                count,
                start,
              );
          once = λ i j less there same.
              let j_in : j < rows = omega (arith, there, many) in
              let i_in : i < rows = omega (arith, less, j_in) in
              row_once order first rows i j less j_in (sym (at_place order first rows i i_in) ∙ same ∙ at_place order first rows j j_in);
          all = λ row there in_section.
              let o = row_place order first rows row (omega (arith, in_section, start)) (omega (arith, in_section, start, there, count)) in
              (o.0, omega (arith, o.1, many), at_place order first rows o.0 o.1 ∙ o.2);
        }
