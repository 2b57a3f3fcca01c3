use Rattle.std.proofs.Common.{◌≡◌, ◌<◌, ◌≤◌, ℕ, length, slice_index, take}
use Rattle.xs_base.specs.Once.{each_once}
use Rattle.xs_plan.specs.Kept.{AreFlags, AreStarts, drawings_in}
use Rattle.xs_plan.proofs.news.News.of.Given as goal

abbrev pub invariant-loop-k : goal.invariant-loop-k
invariant-loop-k l =
    record {
      drawings : l.news.items ≡ each_once (drawings_in (take l.k l.aliases.entries));
      flags : AreFlags l.known.items l.news.items;
      flags_many : length l.known.items ≡ l.drawings;
      starts : AreStarts l.aliases.entries l.firsts.items l.starts.items;
      opened : (j : ℕ) → j < l.k → slice_index l.firsts.items j < length l.starts.items;
      short : length l.starts.items ≤ l.sections;
      few : length l.news.items ≤ l.k;
    }
