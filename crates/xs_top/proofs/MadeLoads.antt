-- The drawings of a generated scene: their files are accepted, and a section holds few bytes of them.
use Rattle.std.proofs.Common.{◌≡◌, ℕ, zero, suc, ◌+◌, ◌-◌, min, ◌*◌, ◌≤◌, ◌<◌, Bool, true, false, if◌then◌else◌, ◌||◌, ◌==◌, inl, inr, sym, subst, ◌∙◌, All, List, [], ◌∷◌, ◌++◌, flat_map, length, sum_by, refl, ap, arith}
use Rattle.std.specs.List.{range_with_len}
use Rattle.std.proofs.lemmas.List.{length-append}
use Rattle.std.proofs.lemmas.List.Elements.{All-nil, All-cons, All-head, All-tail, All-append}
use Rattle.std.proofs.lemmas.Bool.{cases_eq, ne_eqb}
use Rattle.std.proofs.lemmas.List.FromFn.{length-range_with_len}
use Rattle.std.proofs.lemmas.List.Sums.{sum_by-cons}
use Rattle.xs_base.specs.Listed.{is_listed}
use Rattle.xs_base.specs.Once.{fresh}
use Rattle.xs_base.specs.Sections.{section_rows, sections_in, rows_before}
use Rattle.xs_make.specs.Scenes.{scene_from}
use Rattle.xs_meaning.specs.Expressions.{drawings_of, root_of, needed}
use Rattle.xs_scene.specs.Records.{SceneRecord}
use Rattle.xs_plan.specs.Record.{PlanRecord}
use Rattle.xs_top.specs.declared.limits.TheConstants.{MOST_SECTION_BYTES}
use Rattle.xs_top.specs.Demand.{plan_in}
use Rattle.xs_top.specs.Drawings.{bytes_of, bytes_held_over, is_held_over}
use Rattle.xs_top.specs.Generated.{made_files}
use Rattle.xs_top.specs.Loads.{loads_over, loads_in, loads}
use Rattle.xs_top.proofs.Walking.{Load}

all_flat : {A B : Type 0} (P : B → Type 0) (f : A → List B) (xs : List A) → ((x : A) → All P (f x)) → All P (flat_map f xs)
all_flat P f [] each = All-nil P
all_flat P f (x ∷ xs) each = All-append P (f x) (flat_map f xs) (each x) (all_flat P f xs each)

-- those that are new are no more than all
fresh_fewer : (xs known : List ℕ) → length (fresh known xs) ≤ length xs
unfolding fresh
fresh_fewer [] known = omega arith
fresh_fewer (d ∷ ds) known =
    let over = fresh_fewer ds known in
    let new = fresh_fewer ds (known ++ d ∷ []) in
    elim (is_listed known d) as (λ (t : Bool). length (if t then fresh known ds else d ∷ fresh (known ++ d ∷ []) ds) ≤ suc (length ds)) [
      | true ↦ omega (arith, over)
      | false ↦ omega (arith, new)
    ]

sum_few : {A : Type 0} (f : A → ℕ) (most : ℕ) (xs : List A) → ((x : A) → f x ≤ most) → sum_by f xs ≤ length xs * most
sum_few f most [] few = omega arith
sum_few f most (x ∷ xs) few =
    let here = few x in
    let rest = sum_few f most xs few in
    let all = sum_by-cons f x xs in
    omega (arith, here, rest, all)

module _ (seed rows : ℕ) (small : (d : ℕ) → bytes_of (made_files seed) (scene_from seed rows) d ≤ 98304)
    (shown : (row : ℕ) → length (drawings_of (root_of (scene_from seed rows) row)) ≤ 9) where
  needed_few : (xs : List ℕ) → length (needed (scene_from seed rows) xs) ≤ 9 * length xs
  needed_few [] = omega arith
  needed_few (row ∷ xs) =
      let here = shown row in
      let rest = needed_few xs in
      let all = length-append (drawings_of (root_of (scene_from seed rows) row)) (needed (scene_from seed rows) xs) in
      omega (arith, here, rest, all)

  held_small : (held : Bool) (d : ℕ) → (if held then bytes_of (made_files seed) (scene_from seed rows) d else 0) ≤ 98304
  held_small true d = small d
  held_small false d = omega arith

  held_over_few : (p : PlanRecord) (section : ℕ) → bytes_held_over (made_files seed) (scene_from seed rows) p section ≤ 13 * 98304
  unfolding bytes_held_over
  held_over_few p section =
      sum_few (λ d. if is_held_over p section d then bytes_of (made_files seed) (scene_from seed rows) d else 0) 98304 (range_with_len 0 13)
      (λ d. held_small (is_held_over p section d) d)

  over_few : (ds : List ℕ) (over : ℕ) → over + length ds * 98304 ≤ MOST_SECTION_BYTES
      → All (λ (load : Load). load.1 ≤ MOST_SECTION_BYTES) (loads_over (made_files seed) (scene_from seed rows) over ds)
  over_few [] over few = All-nil (λ (load : Load). load.1 ≤ MOST_SECTION_BYTES)
  over_few (d ∷ ds) over few =
      let here = small d in
      All-cons (λ (load : Load). load.1 ≤ MOST_SECTION_BYTES) (d, over + bytes_of (made_files seed) (scene_from seed rows) d) _
      (omega (arith, here, few)) (over_few ds (over + bytes_of (made_files seed) (scene_from seed rows) d) (omega (arith, here, few)))

  section_few : (section : ℕ) → All (λ (load : Load). load.1 ≤ MOST_SECTION_BYTES) (loads_in (made_files seed) (scene_from seed rows) 1 rows section)
  section_few section =
      let s = scene_from seed rows in
      let news = fresh (needed s (rows_before 1 rows section)) (needed s (section_rows 1 rows section)) in
      let held = held_over_few (plan_in s 1 rows) section in
      let fewer = fresh_fewer (needed s (section_rows 1 rows section)) (needed s (rows_before 1 rows section)) in
      let most = needed_few (section_rows 1 rows section) in
      let eight = length-range_with_len (1 + 8 * section) (min (rows + 1 - (1 + 8 * section)) 8) in
      over_few news (bytes_held_over (made_files seed) s (plan_in s 1 rows) section) (omega (arith, held, fewer, most, eight))

  -- no section holds too many bytes
  pub sections_within : All (λ (load : Load). load.1 ≤ MOST_SECTION_BYTES) (loads (made_files seed) (scene_from seed rows) 1 rows)
  sections_within =
      all_flat (λ (load : Load). load.1 ≤ MOST_SECTION_BYTES) (loads_in (made_files seed) (scene_from seed rows) 1 rows)
      (range_with_len 0 (sections_in 1 rows)) section_few

-- the drawings that rows need are among those that there are
module _ (s : SceneRecord) (count : ℕ) (there : (row : ℕ) → All (λ d. d < count) (drawings_of (root_of s row))) where
  all_there : (rows : List ℕ) → All (λ d. d < count) (needed s rows)
  all_there rows = all_flat (λ d. d < count) (λ row. drawings_of (root_of s row)) rows there

  listed_there : (xs : List ℕ) (d : ℕ) → All (λ d. d < count) xs → is_listed xs d ≡ true → d < count
  listed_there [] d all listed = absurd cc
  listed_there (x ∷ xs) d all listed =
      elim (cases_eq x d) [
        | inl same ↦ subst (λ (n : ℕ). n < count) same (All-head (λ d. d < count) x xs all)
        | inr apart ↦
            let other : (x == d) ≡ false = ne_eqb x d apart in
            listed_there xs d (All-tail (λ d. d < count) x xs all) (ap (λ t. t || is_listed xs d) (sym other) ∙ listed)
      ]

  pub needed_there : (rows : List ℕ) (d : ℕ) → is_listed (needed s rows) d ≡ true → d < count
  needed_there rows d listed = listed_there (needed s rows) d (all_there rows) listed
