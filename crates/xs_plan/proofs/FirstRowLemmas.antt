-- Lemmas on the row in which an alias comes first
use Rattle.std.proofs.Common.{◌≡◌, ◌<◌, ◌≤◌, ℕ, zero, suc, Bool, true, false, cond, leb, List, [], ◌∷◌, Contains, length, take, slice_index, ap, subst, ⊎_elim, arith}
use Rattle.std.proofs.lemmas.Bool.{cases_lt, lt-leb}
use Rattle.std.proofs.lemmas.List.{length-take-le, get_or_past}
use Rattle.std.proofs.lemmas.List.Elements.{All-contains}
use Rattle.std.proofs.lemmas.List.Sums.{sum_by-cons}
use Rattle.std.proofs.lemmas.Option.{slice_get-get_or}
use Rattle.std.proofs.Math.Nat.{mul-le-mul_right}
use Rattle.xs_plan.specs.Record.{Entry, PlanRecord, entry_at, no_entry, root_at, root_place, rows_in}
use Rattle.xs_plan.specs.Sections.{first_row}
use Rattle.xs_plan.specs.Valid.{IsPlan, IsInput, RowReaches, Leads}
use Rattle.xs_plan.proofs.RowLemmas.{ended_by}

-- ---- what an alias reaches has no greater number

inputs-below : (p : PlanRecord) → IsPlan p → (k input : ℕ) → Contains (entry_at p.entries k).inputs input → input < k
inputs-below p is k input has =
    ⊎_elim
    (λ there.
    let e = entry_at p.entries k in
    let entry = is.entries k e (slice_get-get_or p.entries k no_entry there) in
    let from = All-contains (IsInput (take k p.entries) e) e.inputs input entry.inputs has in
    omega (arith, from.there, length-take-le k p.entries (omega arith)))
    (λ past.
    let none = subst (λ (e : Entry). Contains e.inputs input) (get_or_past p.entries k no_entry past) has in
    absurd (omega (arith, none.1)))
    (cases_lt k (length p.entries))

pub Leads-down : (p : PlanRecord) → IsPlan p → (reads k last : ℕ) → Leads p.entries reads k last → last ≤ k
unfolding Leads
Leads-down p is zero k last way = omega arith
Leads-down p is (suc reads) k last way =
    omega (arith, Leads-down p is reads way.0 last way.2, inputs-below p is k way.0 way.1)

-- ---- rows that end after an alias

ended_by-le :
    (ends : List ℕ) (k row : ℕ) → ((later : ℕ) → row ≤ later → later < length ends → k < slice_index ends later) → ended_by ends k ≤ row
ended_by-le [] k row after = omega arith
ended_by-le (end ∷ ends) k zero after =
    let rest = ended_by-le ends k zero (λ later le lt. after (suc later) (omega arith) (omega arith)) in
    let none = ap (λ b. cond {A = ℕ} b 1 0) (lt-leb end k (after zero (omega arith) (omega arith))) in
    omega (arith, sum_by-cons (λ end. cond (leb end k) 1 0) end ends)
ended_by-le (end ∷ ends) k (suc row) after =
    let rest = ended_by-le ends k row (λ later le lt. after (suc later) (omega arith) (omega arith)) in
    omega (arith, sum_by-cons (λ end. cond (leb end k) 1 0) end ends, at_most (leb end k))
  where
    at_most : (b : Bool) → cond {A = ℕ} b 1 0 ≤ 1
    at_most true = omega arith
    at_most false = omega arith

-- the end of a later row is no less
ends-rise :
    (p : PlanRecord) → IsPlan p → (row later : ℕ) → row ≤ later → later < rows_in p
    → slice_index p.ends row ≤ slice_index p.ends later
ends-rise p is row later le lt =
    is.ends.rise row later (slice_index p.ends row) (slice_index p.ends later) le (slice_get-get_or p.ends row 0 (omega arith))
    (slice_get-get_or p.ends later 0 lt)

-- what ends after an alias ends no earlier than the row in which it comes first
first_row-le : (p : PlanRecord) → IsPlan p → (row k : ℕ) → row < rows_in p → k < slice_index p.ends row → first_row p k ≤ row
first_row-le p is row k lt after =
    ended_by-le p.ends k row (λ later le in_rows. omega (arith, ends-rise p is row later le in_rows))

pub no_earlier_row : (p : PlanRecord) → IsPlan p → (row k : ℕ) → row < rows_in p → RowReaches p row k → first_row p k ≤ row
no_earlier_row p is row k lt reaches =
    let root = is.roots row reaches.tile lt reaches.there in
    let down = Leads-down p is reaches.reaches.reads (root_at p row reaches.tile) k reaches.reaches.way in
    first_row-le p is row k lt (omega (arith, root.there))

pub first_row-there : (p : PlanRecord) → IsPlan p → (k : ℕ) → k < length p.entries → first_row p k < rows_in p
first_row-there p is k lt =
    ⊎_elim (λ there. there)
    (λ past.
    let tiles = length p.tiles in
    let row = first_row p k in
    let reaches = is.first k lt in
    let product = mul-le-mul_right tiles past in
    let none : root_at p row reaches.tile ≡ 0 = get_or_past p.roots (root_place p row reaches.tile) 0 (omega (arith, is.whole)) in
    let down = Leads-down p is reaches.reaches.reads (root_at p row reaches.tile) k reaches.reaches.way in
    let zeroth : k ≡ 0 = omega arith in
    let root = is.roots 0 0 is.few_rows.0 is.few_tiles.0 in
    let first = first_row-le p is 0 k is.few_rows.0 (omega (arith, root.there)) in
    omega (arith, is.few_rows))
    (cases_lt (first_row p k) (rows_in p))
