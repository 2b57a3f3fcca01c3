use Rattle.std.proofs.Common.{◌≡◌, length, drop, All}
use Rattle.serde_json.specs.View.{items_view}
use Rattle.xs_scene_text.specs.Fields.{each_at}
use Rattle.xs_scene_read.proofs.Loops.{with_front}
use Rattle.xs_scene_read.proofs.element.each.Given as goal

abbrev pub invariant-loop-value : goal.invariant-loop-value
invariant-loop-value g l = record {
  counted : length l.found.items ≡ l.value-index;
  kept : All (g.R.Reader.keeps l.reader) l.found.items;
  reads : with_front l.found.items (each_at (g.R.Reader.says l.reader) l.at (length l.found.items) (items_view (drop l.value-index l.values.items)))
      ≡ each_at (g.R.Reader.says l.reader) l.at 0 (items_view l.values.items);
}
