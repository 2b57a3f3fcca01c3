-- Lemmas on the plan whose making is timed
use Rattle.std.proofs.Common.{◌≡◌, ◌<◌, ◌≤◌, ◌*◌, ◌%◌, ℕ, false, List, [], ◌∷◌, ◌++◌, Option, Some, None, IfSome, All, Contains, length, get_or, replicate, slice_get, refl, sym, ap, ◌∙◌, subst, ⊎_elim, arith}
use Rattle.std.proofs.lemmas.Bool.{cases_lt}
use Rattle.std.proofs.lemmas.List.{length_push, length-replicate, get_or-replicate, get_or_append_left, get_or_default, get_or_push}
use Rattle.std.proofs.lemmas.Option.{slice_get-get_or}
use Rattle.xs_rect.specs.Area.{Area}
use Rattle.xs_plan.specs.Record.{Entry, entry_at, no_entry, drawing_of, input_rect, is_clear_job}
use Rattle.xs_plan.specs.Valid.{IsInput, Reaches}
use Rattle.xs_plan.specs.Draft.{Draft, LacksRoots, next_tile, with_entry, with_root}
use Rattle.xs_timing.specs.declared.plans.TheConstants.{TILES, ROWS}
use Rattle.xs_timing.specs.Made.{IsLast, IsMade, tile_area}

-- ---- roots

tiles-many : {d : Draft} → IsMade d → length d.plan.tiles ≡ TILES
tiles-many made = ap length made.tiles ∙ length-replicate TILES tile_area

pub lacks-few : {d : Draft} → IsMade d → length d.plan.roots < ROWS * TILES → LacksRoots d
lacks-few {d} made few =
    subst (λ (n : ℕ). length d.plan.roots < d.rows * n) (sym (tiles-many made))
    (subst (λ (n : ℕ). length d.plan.roots < n * TILES) (sym made.rows) few)

pub has-all : {d : Draft} → IsMade d → length d.plan.roots ≡ ROWS * TILES → length d.plan.roots ≡ d.rows * length d.plan.tiles
has-all {d} made all =
    all ∙ ap (λ n. n * TILES) (sym made.rows) ∙ ap (λ n. d.rows * n) (sym (tiles-many made))

pub on_its_tile :
    {d : Draft} → IsMade d → (k : ℕ) → IsLast d k tile_area
    → slice_get d.plan.tiles (next_tile d) ≡ Some (entry_at d.plan.entries k).rect
on_its_tile {d} made k last =
    let many = tiles-many made in
    let tile = next_tile d in
    let below : tile < TILES =
    subst (λ (n : ℕ). length d.plan.roots % n < TILES) (sym many) (let h : length d.plan.roots % TILES < TILES = omega arith in h) in
    ap (λ (l : List Area). slice_get l tile) made.tiles
    ∙ slice_get-get_or (replicate TILES tile_area) tile tile_area (omega (arith, length-replicate TILES tile_area))
    ∙ ap Some (get_or-replicate TILES tile tile_area tile_area below)
    ∙ ap Some (sym last.on)

pub IsMade-rooted : {d : Draft} → IsMade d → (k : ℕ) → IsMade (with_root d k)
IsMade-rooted made k = record { tiles = made.tiles; rows = made.rows; needs = made.needs; first = made.first }

pub IsLast-rooted : {d : Draft} (k : ℕ) (rect : Area) → IsLast d k rect → IsLast (with_root d k) k rect
IsLast-rooted k rect last =
    record { last = last.last; on = last.on; unclear = last.unclear; reaches = λ j from lt. absurd (omega arith) }

-- ---- aliases

pub IsMade-added :
    {d : Draft} → IsMade d → (e : Entry) → ((x : ℕ) → drawing_of e.job ≡ Some x → x ≡ 0)
    → (length d.plan.entries ≡ 0 → drawing_of e.job ≡ Some 0) → IsMade (with_entry d e)
IsMade-added {d} made e only first =
    record {
      tiles = made.tiles;
      rows = made.rows;
      needs = λ k x lt is. ⊎_elim (old_needs k x is) (new_needs k x lt is) (cases_lt k n);
      first = λ some. ⊎_elim old_first (λ none. new_first (omega arith)) (cases_lt 0 n);
    }
  where
    n : ℕ
    n = length d.plan.entries

    drawing_at : ℕ → Option ℕ
    drawing_at k = drawing_of (entry_at (d.plan.entries ++ e ∷ []) k).job

    old : (k : ℕ) → k < n → entry_at (d.plan.entries ++ e ∷ []) k ≡ entry_at d.plan.entries k
    old k lt = get_or_append_left d.plan.entries (e ∷ []) no_entry k lt

    new : (k : ℕ) → n ≡ k → entry_at (d.plan.entries ++ e ∷ []) k ≡ e
    new k same = get_or_push d.plan.entries e no_entry k same

    old_needs : (k x : ℕ) → drawing_at k ≡ Some x → k < n → x ≡ 0
    old_needs k x is lt = made.needs k x lt (ap (λ (y : Entry). drawing_of y.job) (sym (old k lt)) ∙ is)

    new_needs : (k x : ℕ) → k < length (d.plan.entries ++ e ∷ []) → drawing_at k ≡ Some x → n ≤ k → x ≡ 0
    new_needs k x lt is from =
        let longer = length_push d.plan.entries e in
        only x (ap (λ (y : Entry). drawing_of y.job) (sym (new k (omega arith))) ∙ is)

    old_first : 0 < n → drawing_at 0 ≡ Some 0
    old_first some = ap (λ (y : Entry). drawing_of y.job) (old 0 some) ∙ made.first some

    new_first : n ≡ 0 → drawing_at 0 ≡ Some 0
    new_first none = ap (λ (y : Entry). drawing_of y.job) (new 0 none) ∙ first none

module _ (itself : (entries : List Entry) (k : ℕ) → Reaches entries k k)
    (input : (entries : List Entry) (k input last : ℕ) → Contains (entry_at entries k).inputs input → Reaches entries input last → Reaches entries k last)
    (more : (entries : List Entry) (e : Entry) (k last : ℕ) → Reaches entries k last → Reaches (entries ++ e ∷ []) k last) where
  -- what is added right after a root reaches itself
  pub IsLast-first :
      (d : Draft) (e : Entry) → d.rooted ≡ length d.plan.entries → is_clear_job e.job ≡ false
      → IsLast (with_entry d e) (length d.plan.entries) e.rect
  IsLast-first d e rooted unclear =
      let here = get_or_push d.plan.entries e no_entry (length d.plan.entries) refl in
      let longer = length_push d.plan.entries e in
      record {
        last = omega arith;
        on = ap (λ (y : Entry). y.rect) here;
        unclear = ap (λ (y : Entry). is_clear_job y.job) here ∙ unclear;
        reaches = λ j from lt.
            subst (λ (n : ℕ). Reaches (d.plan.entries ++ e ∷ []) (length d.plan.entries) n) (let h : length d.plan.entries ≡ j = omega arith in h)
            (itself (d.plan.entries ++ e ∷ []) (length d.plan.entries));
      }

  -- what reads the last alias reaches what that reaches
  pub IsLast-next :
      (d : Draft) (k : ℕ) (rect : Area) (e : Entry) → IsLast d k rect → is_clear_job e.job ≡ false → Contains e.inputs k
      → IsLast (with_entry d e) (length d.plan.entries) e.rect
  IsLast-next d k rect e last unclear reads =
      let entries = d.plan.entries ++ e ∷ [] in
      let n = length d.plan.entries in
      let here = get_or_push d.plan.entries e no_entry n refl in
      let longer = length_push d.plan.entries e in
      record {
        last = omega arith;
        on = ap (λ (y : Entry). y.rect) here;
        unclear = ap (λ (y : Entry). is_clear_job y.job) here ∙ unclear;
        reaches = λ j from lt.
            ⊎_elim
            (λ before.
            input entries n k j (subst (λ (y : Entry). Contains y.inputs k) (sym here) reads)
            (more d.plan.entries e k j (last.reaches j from before)))
            (λ new. subst (λ (m : ℕ). Reaches entries n m) (let h : n ≡ j = omega arith in h) (itself entries n))
            (cases_lt j n);
      }

-- the last alias may be read by one on a rectangle on which it stands
pub IsInput-last :
    (d : Draft) (k : ℕ) (rect : Area) (e : Entry) → IsLast d k rect → rect ≡ input_rect e.job e.rect → IsInput d.plan.entries e k
IsInput-last d k rect e last same =
    record { there = omega (arith, last.last); rect = last.on ∙ same; unclear = last.unclear }

-- ---- the drawings that are needed

-- drawing 0 alone is needed
pub needed-zero : {d : Draft} → IsMade d → All (λ e. IfSome (drawing_of e.job) (λ x. x < 1)) d.plan.entries
needed-zero {d} made k e lt =
    needed (drawing_of (get_or d.plan.entries k e).job) refl
  where
    needed : (o : Option ℕ) → drawing_of (get_or d.plan.entries k e).job ≡ o → IfSome o (λ x. x < 1)
    needed None is = tt
    needed (Some x) is =
        let zeroth = made.needs k x lt (ap (λ (y : Entry). drawing_of y.job) (get_or_default d.plan.entries k no_entry e lt) ∙ is) in
        omega arith
