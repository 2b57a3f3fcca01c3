-- What a valid plan tells of an alias and of those that it reads.
use Rattle.std.proofs.Common.{◌≡◌, ℕ, ◌<◌, ◌≤◌, Some, List, length, take, slice_get, ap, sym, ◌∙◌, subst, ℤ, pos, ◌+ℤ◌, ◌-ℤ◌, w32, SFits, to_z, of_z, refl, arith}
use Rattle.std.proofs.lemmas.Int.{ints, fits_signed_from_abs, to_z-of_z, to_z_pos}
use Rattle.std.proofs.lemmas.List.{get_or-take, length-take}
use Rattle.std.proofs.lemmas.List.Elements.{All-get_or}
use Rattle.std.proofs.lemmas.Option.{slice_get-get_or}
use Rattle.xs_plan.specs.declared.job.Job.{Job}
use Rattle.xs_plan.specs.Record.{Entry, PlanRecord, entry_at, no_entry, input_rect}
use Rattle.xs_plan.specs.Valid.{IsEntry, IsInput, IsJob, IsOffset, IsPlan}
use Rattle.xs_plan.specs.Values.{input_at}
use Rattle.xs_rawfile.specs.Held.{Held}
use Rattle.xs_rect.specs.Area.{Area, IsNear, IsPart, IsSide, Lies}
use Rattle.xs_raster.specs.declared.raster.TheConstants.{LONGEST_BLANK_SIDE}
use Rattle.xs_bench.specs.Inputs.{HasDrawing}

pub entry-valid : (p : PlanRecord) (k : ℕ) → IsPlan p → k < length p.entries → IsEntry (length p.tints) (take k p.entries) (entry_at p.entries k)
entry-valid p k valid there = valid.entries k (entry_at p.entries k) (slice_get-get_or p.entries k no_entry there)

pub job-valid : (p : PlanRecord) (k : ℕ) (job : Job) → IsPlan p → k < length p.entries → job ≡ (entry_at p.entries k).job → IsJob (length p.tints) job
job-valid p k job valid there is = subst (λ (j : Job). IsJob (length p.tints) j) (sym is) (entry-valid p k valid there).job

-- the alias that is read at a port
pub record IsRead (p : PlanRecord) (k port input : ℕ) : Type 0 where
  pub at : slice_get (entry_at p.entries k).inputs port ≡ Some input
  pub earlier : input < k
  pub rect : (entry_at p.entries input).rect ≡ input_rect (entry_at p.entries k).job (entry_at p.entries k).rect

below_taken : (k : ℕ) (entries : List Entry) (n : ℕ) → n < length (take k entries) → n < k
below_taken k entries n below = omega (arith, length-take k entries)

pub input-read :
    (p : PlanRecord) (k port : ℕ) → IsPlan p → k < length p.entries → port < length (entry_at p.entries k).inputs
    → IsRead p k port (input_at (entry_at p.entries k).inputs port)
input-read p k port valid there has =
    let e = entry_at p.entries k in
    let input = input_at e.inputs port in
    let entry = entry-valid p k valid there in
    let from : IsInput (take k p.entries) e input = All-get_or (IsInput (take k p.entries) e) e.inputs port 0 has entry.inputs in
    let below : input < k = below_taken k p.entries input from.there in
    let same = get_or-take k p.entries input no_entry below in
    record {
      at = slice_get-get_or e.inputs port 0 has;
      earlier = below;
      rect = sym (ap (λ (f : Entry). f.rect) same) ∙ from.rect;
    }

-- ---- points that an offset moves

pub offset-fits : (d : ℤ) → IsOffset d → SFits w32 d
offset-fits d near = fits_signed_from_abs w32 d (omega (arith, ints, near.0, near.1))

pub moved-fits : (from : ℤ) (len : ℕ) (z d : ℤ) → IsNear from → IsSide len → Lies from len z → IsOffset d → SFits w32 (z -ℤ d)
moved-fits from len z d near side on offset = fits_signed_from_abs w32 (z -ℤ d) (omega (arith, ints))

-- the place that lies so many places after another one, as it is computed
pub placed :
    (from : ℤ) (len n : ℕ) → IsNear from → IsSide len → n < len → to_z w32 (of_z w32 (to_z w32 (of_z w32 from) +ℤ to_z w32 n)) ≡ from +ℤ pos n
placed from len n near side below =
    let start = to_z-of_z w32 from (fits_signed_from_abs w32 from (omega (arith, ints, near.0, near.1))) in
    let step = to_z_pos w32 n (omega (arith, side.1)) in
    let all = to_z-of_z w32 (from +ℤ pos n) (fits_signed_from_abs w32 (from +ℤ pos n) (omega (arith, ints, near.0, near.1, side.1))) in
    rw (start, step, all) refl

-- so many places after the corner of a rectangle, as the first coordinate is read off an equal rectangle
pub placed-in :
    (from corner : ℤ) (len side n : ℕ) → IsNear from → IsSide len → from ≡ corner → len ≡ side → n < side
    → to_z w32 (of_z w32 (to_z w32 (of_z w32 from) +ℤ to_z w32 n)) ≡ corner +ℤ pos n
placed-in from corner len side n near is_side at long below =
    placed from len n near is_side (omega arith) ∙ ap (λ (z : ℤ). z +ℤ pos n) at

-- such a place lies in the side
pub lies-placed : (corner : ℤ) (side n : ℕ) → n < side → Lies corner side (corner +ℤ pos n)
lies-placed corner side n below = record { least = omega (arith, ints); below = omega (arith, ints) }

pub part-placed : (corner : ℤ) (side n len : ℕ) → n < side → len ≡ 1 → IsPart (corner +ℤ pos n) len corner side
part-placed corner side n len below one = (omega (arith, ints), omega (arith, ints))

-- ---- the drawing of a job

pub drawing-held : (h : Held) (j job : Job) → j ≡ job → HasDrawing h job → HasDrawing h j
drawing-held h j job is has = subst (λ (j : Job). HasDrawing h j) (sym is) has

-- ---- sides

-- no side of an alias' rectangle is longer than that of a raster without bytes
pub blank-sides :
    (p : PlanRecord) (k : ℕ) (rect : Area) → IsPlan p → k < length p.entries → rect ≡ (entry_at p.entries k).rect
    → (rect.w ≤ LONGEST_BLANK_SIDE) × (rect.h ≤ LONGEST_BLANK_SIDE)
blank-sides p k rect valid there is =
    let sides = (entry-valid p k valid there).sides in
    let wide = ap (λ (a : Area). a.w) is in
    let high = ap (λ (a : Area). a.h) is in
    (omega (arith, sides.0), omega (arith, sides.1))
