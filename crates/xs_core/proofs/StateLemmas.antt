-- Lemmas on states in which one phase, read or tile is another one
use Rattle.std.proofs.Common.{◌≡◌, ◌≢◌, ◌<◌, ◌+◌, ℕ, Bool, true, false, ◌&&◌, ◌==◌, List, length, get_or, set, count_by, refl, sym, ap, ◌∙◌, inl, inr, arith, get_or-set_same, get_or-set_other}
use Rattle.std.proofs.lemmas.Bool.{cases_eq}
use Rattle.std.proofs.lemmas.List.{take_all}
use Rattle.xs_plan.specs.Record.{PlanRecord}
use Rattle.xs_plan.specs.Reads.{sources, reads_in, readers_of}
use Rattle.xs_core.specs.declared.state.ReadState.{ReadState}
use Rattle.xs_core.specs.declared.state.ReadState.TheVariants.{Waiting, InTurn, Served}
use Rattle.xs_core.specs.Counts.{one_if}
use Rattle.xs_core.specs.States.{World, read_of, with_read, is_open, is_served, source_at, reads_where, left, served}
use Rattle.xs_core.proofs.CountLemmas.{how_many-alike, how_many-but_one, how_many-parts, how_many-places}

-- what holds of what is put at a place, and of the others
pub get_or-set :
    {A : Type 0} (P : A → Type 0) (l : List A) (i j : ℕ) (a d : A) → i < length l
    → (j ≡ i → P a) → (j ≢ i → P (get_or l j d)) → P (get_or (set l i a) j d)
get_or-set P l i j a d lt here there =
    elim (cases_eq j i) [
      | inl same ↦ rw (same, get_or-set_same l i a d lt) (here same)
      | inr differ ↦ rw (get_or-set_other l i j a d differ) (there differ)
    ]

-- what an element says stays where one that says the same takes its place
pub said-set :
    {A B : Type 0} (says : A → B) (l : List A) (i j : ℕ) (a d : A) → i < length l
    → says a ≡ says (get_or l i d) → says (get_or (set l i a) j d) ≡ says (get_or l j d)
said-set says l i j a d lt same =
    elim (cases_eq j i) [
      | inl here ↦ rw (here, get_or-set_same l i a d lt) same
      | inr differ ↦ ap says (get_or-set_other l i j a d differ)
    ]

-- ---- counts of reads

-- a read is in another state: one that passes more or less, of its source alone
pub reads_where-set :
    (passes : ReadState → Bool) (p : PlanRecord) (w : World) (e : ℕ) (s : ReadState) (k : ℕ)
    → length w.reads ≡ reads_in p → e < reads_in p
    → reads_where passes p (with_read w e s) k + one_if ((source_at p e == k) && passes (read_of w e))
    ≡ reads_where passes p w k + one_if ((source_at p e == k) && passes s)
reads_where-set passes p w e s k many lt =
    let there : e < length w.reads = omega arith in
    let step = how_many-but_one (reads_in p) e (λ i. (source_at p i == k) && passes (read_of w i))
    (λ i. (source_at p i == k) && passes (read_of (with_read w e s) i)) lt
    (λ i less differ. ap (λ r. (source_at p i == k) && passes r) (sym (get_or-set_other w.reads e i s Waiting differ))) in
    let here = ap (λ r. one_if ((source_at p e == k) && passes r)) (get_or-set_same w.reads e s Waiting there) in
    step ∙ ap (λ n. reads_where passes p w k + n) here

-- one that passes alike changes nothing
pub reads_where-same :
    (passes : ReadState → Bool) (p : PlanRecord) (w : World) (e : ℕ) (s : ReadState) (k : ℕ)
    → length w.reads ≡ reads_in p → e < reads_in p → passes s ≡ passes (read_of w e)
    → reads_where passes p (with_read w e s) k ≡ reads_where passes p w k
reads_where-same passes p w e s k many lt same =
    how_many-alike (reads_in p) (λ i. (source_at p i == k) && passes (read_of (with_read w e s) i))
    (λ i. (source_at p i == k) && passes (read_of w i))
    (λ i less. ap (λ b. (source_at p i == k) && b) (said-set passes w.reads e i s Waiting (omega arith) same))

-- open reads and served ones are all there are
pub left-served : (p : PlanRecord) (w : World) (k : ℕ) → left p w k + served p w k ≡ readers_of p k
left-served p w k =
    how_many-parts (reads_in p) (λ e. (source_at p e == k) && is_open (read_of w e))
    (λ e. (source_at p e == k) && is_served (read_of w e)) (λ e. source_at p e == k)
    (λ e less. parts (source_at p e == k) (read_of w e))
    ∙ how_many-places (sources p) (λ s. s == k) (reads_in p) (omega arith)
    ∙ ap (count_by (λ s. s == k)) (take_all (reads_in p) (sources p) (omega arith))
  where
    parts : (b : Bool) (r : ReadState) → one_if (b && is_open r) + one_if (b && is_served r) ≡ one_if b
    parts true Waiting = refl
    parts true (InTurn seat) = refl
    parts true Served = refl
    parts false r = refl
