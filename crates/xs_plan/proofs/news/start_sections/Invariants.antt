use Rattle.std.proofs.Common.{◌≡◌, ◌<◌, ◌-◌, ◌++◌, replicate, vec_len}
use Rattle.xs_plan.proofs.news.start_sections.Given as goal

abbrev pub invariant-loop-section : goal.invariant-loop-section
invariant-loop-section l =
    (l.starts.items ≡ l.initial.starts.items ++ replicate (l._section - vec_len l.initial.starts) l.drawings)
    × (l.below < l._section → l._section ≡ vec_len l.initial.starts)
