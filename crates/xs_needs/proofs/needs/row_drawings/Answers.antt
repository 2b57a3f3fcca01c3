use Rattle.std.proofs.Common.{◌≡◌, ◌≤◌, ◌<◌, ℕ, Bool, List, [], IfOk, All, Contains, length, sym, ap, ◌∙◌, subst, arith}
use Rattle.std.proofs.lemmas.List.Elements.{All-nil}
use Rattle.std.proofs.lemmas.Result.{IfOk-weaker}
use Rattle.xs_scene.specs.Records.{SceneRecord, SheetRecord}
use Rattle.xs_meaning.specs.Palettes.{none_dropped}
use Rattle.xs_pixel.specs.Points.{opposite}
use Rattle.xs_meaning.specs.RowValues.{camera_at}
use Rattle.xs_meaning.specs.Walk.{sheet_at, no_sheet}
use Rattle.xs_meaning.proofs.Lists.{All-slice_index_or}
use Rattle.xs_check.specs.Good.{IsGood, files_of}
use Rattle.xs_step.specs.declared.spot.At.TheVariants.{Row}
use Rattle.xs_step.specs.declared.spot.Spot.{Spot}
use Rattle.xs_step.specs.Spots.{spot}
use Rattle.xs_needs.specs.Found.{AreRight, AreWhole}
use Rattle.xs_base.specs.Once.{fresh, with_each}
use Rattle.xs_needs.specs.Shown.{drawings_at, is_clear_at}
use Rattle.xs_needs.proofs.needs.row_drawings.Goals as goal

few_nodes : (s : SceneRecord) → IsGood s → (k : ℕ) → length (sheet_at s.sheets k).nodes ≤ 256
few_nodes s good k =
    All-slice_index_or (λ (sheet : SheetRecord). length sheet.nodes ≤ 256) s.sheets k no_sheet (omega arith)
    (λ i d lt. (good.sheets i d lt).few_nodes)

pub gather-requires : goal.gather-requires
gather-requires c =
    let s = c.args.s.now in
    let good = c.scene.ensures.good in
    let known = c.new-2.result.drawings.keys in
    record {
      all_end = good.ends;
      there = good.first_sheet;
      ends = c.ways_end.ensures s good.ends (few_nodes s good) 0 c.args.row;
      sound =
          record {
            right = subst (AreRight s) (sym c.new.ensures) (All-nil (λ (e : Spot × Bool). e.1 ≡ is_clear_at s e.0));
            whole =
                subst (AreWhole s known) (sym c.new-2.ensures.whole)
                (All-nil (λ (p : Spot). All (Contains known) (drawings_at s p)));
            below =
                subst (All (λ d. d < length (files_of s.levels))) (sym c.new-2.ensures.drawings)
                (All-nil (λ (d : ℕ). d < length (files_of s.levels)));
          };
    }

pub returns-clause-value : goal.returns-clause-value
returns-clause-value c =
    let s = c.args.s.now in
    let drawings = drawings_at s (spot 0 Row c.args.row) in
    let all =
    c.in_ok-gather.ensures.drawings
    ∙ ap (λ (known : List ℕ). with_each known drawings) c.new-2.ensures.drawings
    ∙ ap (fresh []) (sym (c.spots_tell_what_is_shown.ensures.drawings s 0 c.args.row none_dropped (opposite (camera_at s c.args.row))))
    in
    subst (λ (xs : List ℕ). IfOk c.into_drawings.result (λ v. v.items ≡ xs)) all c.into_drawings.ensures

pub returns-clause-there : goal.returns-clause-there
returns-clause-there c =
    IfOk-weaker c.into_drawings.result _ (λ v. All (λ d. d < length (files_of c.args.s.now.levels)) v.items)
    (λ v is. subst (All (λ d. d < length (files_of c.args.s.now.levels))) (sym is) c.in_ok-gather.ensures.sound.below)
    c.into_drawings.ensures
