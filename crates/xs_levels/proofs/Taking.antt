-- A drawing is taken into a stock
use Rattle.std.proofs.Common.{◌≡◌, ℕ, ◌+◌, ◌*◌, ◌<◌, ◌≤◌, ◌==◌, if◌then◌else◌, List, length, set, slice_set, get_or, Option, Some, None, All, refl, sym, ap, ◌∙◌, subst, arith}
use Rattle.std.proofs.lemmas.List.{length-set}
use Rattle.xs_rawfile.specs.Raw.{Raw}
use Rattle.xs_rawfile.specs.Held.{held}
use Rattle.xs_chain.specs.Row.{Row, list_at, list_with, with_last}
use Rattle.xs_scene.specs.declared.level.Kind.TheVariants.{Colour}
use Rattle.xs_plan.specs.Record.{PlanRecord}
use Rattle.xs_plan.specs.Needed.{last_section_of}
use Rattle.xs_levels.specs.Table.{TableRecord, IsTable, HasPalette, kind_of}
use Rattle.xs_levels.specs.Stocked.{StockRecord, IsCounted, HasTaken, raw_bytes}
use Rattle.xs_levels.proofs.Members.{listed_with_last}
use Rattle.xs_levels.proofs.Counting.{counted_more}

pub taken : (p : PlanRecord) (before : StockRecord) (d : ℕ) (g : Raw) (palette : Option ℕ) (last : ℕ) → IsCounted before
    → d < length before.held.slots → list_with before.row d ≡ None → last < length before.row.lists → last_section_of p d ≡ Some last
    → before.bytes + raw_bytes g ≤ before.limit
    → HasTaken p d before (raw_bytes g)
    (record before {
      held = held (slice_set before.held.slots d (Some (g, palette))) before.held.palettes;
      row = with_last before.row last d;
      bytes = before.bytes + raw_bytes g;
    })
taken p before d g palette last counted within free inside is few =
    let listed : (e : ℕ) → list_with (with_last before.row last d) e ≡ (if d == e then Some last else list_with before.row e) =
    λ e. listed_with_last before.row last d e inside free in
    record {
      counted = counted_more before (with_last before.row last d) d g palette last counted within free refl listed few;
      slots = length-set before.held.slots d (Some (g, palette));
      palettes = refl;
      lists = length-set before.row.lists last _;
      listed = λ e. listed e ∙ ap (λ o. if d == e then o else list_with before.row e) (sym is);
      bytes = refl;
      limit = refl;
      loaded = refl;
      ended = refl;
    }

-- the kind of a drawing has its palette
pub kind_named : (t : TableRecord) (d : ℕ) → IsTable t → d < length t.files → HasPalette (length t.palettes) (kind_of t d)
kind_named t d sound within = sound.palettes d Colour (omega (arith, within, sound.kinds))
