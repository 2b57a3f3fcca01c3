-- Lemmas on plans whose rows have an alias each
use Rattle.std.proofs.Common.{◌≡◌, ◌<◌, ◌+◌, ℕ, IfSome, List, [], ◌∷◌, ◌++◌, length, pos, sym, ap, subst, ◌∙◌, arith, rules}
use Rattle.std.proofs.lemmas.List.{length_push}
use Rattle.std.proofs.lemmas.List.Elements.{All-nil, All-push}
use Rattle.xs_rect.specs.Area.{Area, IsRect, area}
use Rattle.xs_plan.specs.declared.job.Job.{Job}
use Rattle.xs_plan.specs.Record.{Entry, drawing_of}
use Rattle.xs_plan.specs.Draft.{Draft, HasRoots, LacksRoots, with_entry, with_root}
use Rattle.xs_plan.specs.Valid.{HasSides, IsEntry}
use Rattle.xs_levels_tests.specs.Rows.{HasRows, IsShown, alias_on}

one_sides : HasSides (area (pos 0) (pos 0) 1 1)
one_sides = search rules

one_is_rect : IsRect (area (pos 0) (pos 0) 1 1)
one_is_rect = search rules

-- the alias of a row may stand behind those of the earlier rows
pub is_entry :
    (tints : ℕ) (entries : List Entry) (tile : Area) (job : Job) → tile ≡ area (pos 0) (pos 0) 1 1 → IsShown job
    → IsEntry tints entries (alias_on tile job)
is_entry tints entries tile job small shown = record {
  ports = sym shown.reads;
  inputs = All-nil _;
  job = shown.numbers tints;
  valid = subst IsRect (sym small) one_is_rect;
  sides = subst HasSides (sym small) one_sides;
}

-- one row more has its alias
pub rows_more :
    (tile : Area) (rows row : ℕ) (d : Draft) (job : Job) → HasRows tile rows row d → IsShown job
    → HasRows tile rows (row + 1) (with_root (with_entry d (alias_on tile job)) (length d.plan.entries))
rows_more tile rows row d job has shown = record {
  tiles = has.tiles;
  many = has.many;
  roots = length_push d.plan.roots (length d.plan.entries) ∙ ap (λ n. n + 1) has.roots;
  entries = entries;
  rooted = entries;
  drawings = All-push (λ (e : Entry). IfSome (drawing_of e.job) (λ drawing. drawing < 3)) d.plan.entries (alias_on tile job) has.drawings shown.drawing;
}
  where
    entries : length (d.plan.entries ++ alias_on tile job ∷ []) ≡ row + 1
    entries = length_push d.plan.entries (alias_on tile job) ∙ ap (λ n. n + 1) has.entries

-- a row lacks its alias until the last one has it
pub lacks :
    (tile : Area) (rows row : ℕ) (d : Draft) → HasRows tile rows row d → row < rows → LacksRoots d
lacks tile rows row d has less =
    let one : length d.plan.tiles ≡ 1 = ap length has.tiles in
    rw one (omega (arith, has.roots, has.many, less))

pub has_all : (tile : Area) (rows row : ℕ) (d : Draft) → HasRows tile rows row d → row ≡ rows → HasRoots d
has_all tile rows row d has all =
    let one : length d.plan.tiles ≡ 1 = ap length has.tiles in
    rw one (omega (arith, has.roots, has.many, all))
