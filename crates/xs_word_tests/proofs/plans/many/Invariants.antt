use Rattle.std.proofs.Common.{◌≡◌, ◌<◌, [], ◌∷◌, All, IfSome, length}
use Rattle.xs_plan.specs.Record.{drawing_of}
use Rattle.xs_word_tests.specs.declared.plans.TheConstants.{MANY}
use Rattle.xs_word_tests.proofs.plans.many.Given as goal

abbrev pub invariant-loop-row : goal.invariant-loop-row
invariant-loop-row l = record {
  tiles : l.b.plan.tiles ≡ l.tile ∷ [];
  rows : l.b.rows ≡ MANY;
  count : length l.b.plan.entries ≡ l._row;
  roots : length l.b.plan.roots ≡ l._row;
  rooted : l.b.rooted ≡ length l.b.plan.entries;
  drawn : All (λ e. IfSome (drawing_of e.job) (λ d. d < 0)) l.b.plan.entries;
}
