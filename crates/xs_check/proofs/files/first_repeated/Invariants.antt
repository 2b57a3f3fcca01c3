use Rattle.std.proofs.Common.{◌≡◌, ◌≢◌, ◌<◌, ℕ, List, [], All, is_some, map, take, get_or}
use Rattle.std.specs.BTreeMap.{get_by}
use Rattle.std.specs.Cmp.Lexicographic.{slice_cmp}
use Rattle.std.specs.Ordering.{nat_cmp}
use Rattle.xs_check.proofs.Repeats.{among}
use Rattle.xs_check.proofs.files.first_repeated.Given as goal

abbrev pub invariant-loop-d : goal.invariant-loop-d
invariant-loop-d l =
    record {
      known : (q : List ℕ) → is_some (get_by (λ k. slice_cmp nat_cmp q k.now) l.known) ≡ among (take l.d (map (λ f. f.now) l.files)) q;
      apart : (j : ℕ) → j < l.d → All (λ earlier. earlier ≢ get_or (map (λ f. f.now) l.files) j []) (take j (map (λ f. f.now) l.files));
    }
