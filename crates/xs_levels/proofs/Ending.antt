-- A section ends
use Rattle.std.proofs.Common.{◌≡◌, ℕ, ◌+◌, ◌<◌, length, Option, Some, None, is_some, refl, sym, ap, ◌∙◌, subst}
use Rattle.xs_rawfile.specs.Held.{slot_in}
use Rattle.xs_chain.specs.Row.{head, list_at, list_with}
use Rattle.xs_plan.specs.Record.{PlanRecord}
use Rattle.xs_plan.specs.Sections.{sections_in}
use Rattle.xs_plan.specs.Needed.{needs_before, held}
use Rattle.xs_levels.specs.Table.{TableRecord, IsTable}
use Rattle.xs_levels.specs.Films.{AreAsWritten}
use Rattle.xs_levels.specs.Stocked.{StockRecord, IsStock, IsStockOf, IsLess, Holds, list_of_drawing, left_after}
use Rattle.xs_levels.proofs.Lasting.{gone, in_lists_left, in_lists_held}
use Rattle.xs_levels.proofs.Members.{none_listed}
use Rattle.xs_levels.proofs.Refusing.{stock_moved}

stock_left : (p : PlanRecord) (t : TableRecord) (s : ℕ) (before now : StockRecord) → IsStock p t before → before.loaded ≡ s + 1 → before.ended ≡ s
    → IsLess s before now → head (list_at now.row s) ≡ None → IsStockOf p t (s + 1) (needs_before p (s + 1)) now
stock_left p t s before now stock loaded ended less none =
    let was : IsStockOf p t s (needs_before p (s + 1)) before =
    subst (λ n. IsStockOf p t s (needs_before p n) before) loaded (subst (λ n. IsStockOf p t n (needs_before p before.loaded) before) ended stock.stock) in
    record {
      counted = less.counted;
      slots = less.slots ∙ was.slots;
      lists = less.lists ∙ was.lists;
      palettes = ap length less.palettes ∙ was.palettes;
      as_written = subst (λ palettes. AreAsWritten palettes t) (sym less.palettes) was.as_written;
      listed = λ d.
          gone p s d (needs_before p (s + 1)) (list_with before.row d) (list_with now.row d) (was.listed d) (less.listed d)
          (none_listed now.row s d none);
    }

pub stock_ended : (p : PlanRecord) (t : TableRecord) (s : ℕ) (before now : StockRecord) → s < length before.row.lists → IsStock p t before
    → before.loaded ≡ s + 1 → before.ended ≡ s → IsLess s before now → head (list_at now.row s) ≡ None
    → IsStock p t (record now { ended = now.loaded }) × Holds now.held (left_after p s)
stock_ended p t s before now inside stock loaded ended less none =
    let is = stock_left p t s before now stock loaded ended less none in
    let count : now.loaded ≡ s + 1 = less.loaded ∙ loaded in
    let within : s < sections_in p = subst (λ n. s < n) stock.stock.lists inside in (
      record {
        table = stock.table;
        stock = subst (λ n. IsStockOf p t n (needs_before p n) (record now { ended = now.loaded })) (sym count)
            (stock_moved p t (s + 1) (needs_before p (s + 1)) now now.loaded now.loaded is);
      },
      λ d. less.counted.listed d ∙ (ap is_some (is.listed d) ∙ in_lists_left p s d within),
    )

pub stock_loaded : (p : PlanRecord) (t : TableRecord) (s : ℕ) (now : StockRecord) → s < sections_in p → IsStockOf p t s (needs_before p (s + 1)) now
    → Holds now.held (held p s)
stock_loaded p t s now within is d = is.counted.listed d ∙ (ap is_some (is.listed d) ∙ in_lists_held p s d within)

pub stock_after : (p : PlanRecord) (t : TableRecord) (s : ℕ) (now : StockRecord) → IsTable t → now.ended ≡ s
    → IsStockOf p t s (needs_before p (s + 1)) now → IsStock p t (record now { loaded = s + 1 })
stock_after p t s now sound ended is = record {
  table = sound;
  stock = subst (λ n. IsStockOf p t n (needs_before p (s + 1)) (record now { loaded = s + 1 })) (sym ended)
      (stock_moved p t s (needs_before p (s + 1)) now (s + 1) now.ended is);
}
