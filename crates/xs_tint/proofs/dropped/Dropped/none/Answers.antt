use Rattle.std.proofs.Common.{◌≡◌, [], ap, ◌∙◌, rules}
use Rattle.xs_tint.specs.Filters.{dropped_by}
use Rattle.xs_tint.proofs.Marks.{none_dropped-by_no_flags}
use Rattle.xs_tint.proofs.dropped.Dropped.none.Goals as goal

pub returns : goal.returns
returns c =
    let no_flags : c.new.result.items ≡ [] = search rules in
    ap dropped_by no_flags ∙ none_dropped-by_no_flags
