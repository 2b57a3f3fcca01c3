-- Rows that are added one after another
use Rattle.std.proofs.Common.{◌≡◌, ◌<◌, ◌≤◌, ◌+◌, ◌*◌, ◌++◌, ℕ, None, Some, Option, Result, Ok, Err, OnOk, All, true, false, true≢false, List, [], ◌∷◌, length, take, drop, refl, sym, ap, ap₂, ◌∙◌, subst, arith, append_assoc, length-append}
use Rattle.std.specs.Option.{option_map}
use Rattle.std.specs.Prelude.{is_err}
use Rattle.std.proofs.lemmas.List.{get_or_append_left, take-append-le, take-append-drop, append-nil}
use Rattle.std.proofs.lemmas.List.FromFn.{map-range_with_len_more, take-map-range_with_len, length-map-range_with_len}
use Rattle.xs_rect.specs.Area.{Area}
use Rattle.xs_scene.specs.Records.{SceneRecord}
use Rattle.xs_meaning.specs.Expressions.{Expr, Clear}
use Rattle.xs_demand.specs.Aliases.{visit_tiles, visit_rows}
use Rattle.xs_plan.specs.Draft.{Draft, empty_draft}
use Rattle.xs_demand.specs.Blocks.{Spread}
use Rattle.xs_demand.specs.Limits.{Limit, aliases_through, limit_passed, limit_at, first_limit}
use Rattle.xs_demand.proofs.LimitLemmas.{some_passed, passed_is_first}
use Rattle.xs_dryrun.specs.declared.next.Underway.{Underway}
use Rattle.xs_dryrun.specs.declared.limits.What.{What}
use Rattle.xs_dryrun.specs.declared.limits.PlanFault.{PlanFault}
use Rattle.xs_dryrun.specs.declared.limits.PlanFault.TheVariants.{Limit as Told}
use Rattle.xs_dryrun.specs.Passing.{what_of}
use Rattle.xs_dryrun.specs.Planned.{Planned, AreRoots}
use Rattle.xs_dryrun.specs.Trying.{MayFollow, TriesRoot}
use Rattle.xs_dryrun.specs.Adding.{root_under, roots_under, MayAdd, AddsRows, TriesRows}

-- ---- the first limit stays the first when rows follow

limit_stays :
    (areas : List Area) (roots more : List Expr) (row tile : ℕ) → row < length roots
    → limit_at areas (roots ++ more) row tile ≡ limit_at areas roots row tile
unfolding aliases_through
limit_stays areas roots more row tile here =
    ap₂ (λ (r : Expr) (l : List Expr).
    limit_passed r (visit_tiles r (take (tile + 1) areas) (visit_rows areas l [])) (row * length areas + tile + 1))
    (get_or_append_left roots more Clear row here) (take-append-le row roots more (omega arith))

pub limit_first :
    (areas : List Area) (roots more : List Expr) (w : Limit) → first_limit areas roots ≡ Some w
    → first_limit areas (roots ++ more) ≡ Some w
limit_first areas roots more w some =
    let p = some_passed areas roots w some in
    passed_is_first areas (roots ++ more) w
    (record {
      row = p.row;
      tile = p.tile;
      there = omega (arith, p.there, length-append roots more);
      among = p.among;
      passed = limit_stays areas roots more p.row p.tile p.there ∙ p.passed;
      before_row = λ earlier other before among.
          limit_stays areas roots more earlier other (omega (arith, p.there)) ∙ p.before_row earlier other before among;
      before_tile = λ other before. limit_stays areas roots more p.row other p.there ∙ p.before_tile other before;
    })

pub told_first :
    (areas : List Area) (roots more : List Expr) (w : What) → option_map what_of (first_limit areas roots) ≡ Some w
    → option_map what_of (first_limit areas (roots ++ more)) ≡ Some w
told_first areas roots more w told = by_limit (first_limit areas roots) refl told
  where
    by_limit : (l : Option Limit) → first_limit areas roots ≡ l → option_map what_of l ≡ Some w
        → option_map what_of (first_limit areas (roots ++ more)) ≡ Some w
    by_limit None is same = cc
    by_limit (Some x) is same = ap (option_map what_of) (limit_first areas roots more x is) ∙ same

-- ---- rows from one on

ok_not_err : (x : Unit {0}) (fault : PlanFault) → Ok x ≡ Err fault → ⊥
ok_not_err x fault same = cc

err_of : (r : Result (Unit {0}) PlanFault) → is_err r ≡ true → (fault : PlanFault) × (r ≡ Err fault)
err_of (Ok x) wrong = absurd (true≢false (sym wrong))
err_of (Err fault) is = (fault, refl)

pub ok_of : (r : Result (Unit {0}) PlanFault) (P : Type 0) → is_err r ≡ false → OnOk r P → P
ok_of (Ok x) P is p = p
ok_of (Err fault) P wrong p = absurd (true≢false wrong)

pub on_err : (r : Result (Unit {0}) PlanFault) (P : Type 0) → is_err r ≡ true → OnOk r P
on_err (Ok x) P wrong = absurd (true≢false (sym wrong))
on_err (Err fault) P is = tt

module _ (s : SceneRecord) (names : List ℕ) (from : ℕ) where
  pub one_more : (n : ℕ) → roots_under s names from (n + 1) ≡ roots_under s names from n ++ root_under s names (from + n) ∷ []
  one_more n = map-range_with_len_more (root_under s names) from n (from + n) refl

  pub behind_one_more :
      (roots : List Expr) (n : ℕ)
      → (roots ++ roots_under s names from n) ++ root_under s names (from + n) ∷ [] ≡ roots ++ roots_under s names from (n + 1)
  behind_one_more roots n =
      append_assoc roots (roots_under s names from n) (root_under s names (from + n) ∷ [])
      ∙ ap (λ (l : List Expr). roots ++ l) (sym (one_more n))

  pub all_behind :
      (roots : List Expr) (n count : ℕ) → n ≤ count
      → (roots ++ roots_under s names from n) ++ drop n (roots_under s names from count) ≡ roots ++ roots_under s names from count
  all_behind roots n count le =
      let all = roots_under s names from count in
      let first : roots_under s names from n ≡ take n all = sym (take-map-range_with_len (root_under s names) from count n le) in
      append_assoc roots (roots_under s names from n) (drop n all)
      ∙ ap (λ (l : List Expr). roots ++ (l ++ drop n all)) first
      ∙ ap (λ (l : List Expr). roots ++ l) (take-append-drop n all)

  module _ (place count : ℕ) (old : Underway) where
    pub none_added : AddsRows s names from place count 0 old old
    none_added =
        record {
          tiles = refl;
          room = refl;
          many = refl;
          adds = λ drawings roots may.
              let same : roots ≡ roots ++ roots_under s names from 0 = sym (append-nil roots) in (
                subst (λ (l : List Expr). Planned drawings l old.build.entered old.rows old.builder) same may.planned,
                subst (λ (l : List Expr). first_limit old.builder.plan.tiles l ≡ None) same may.none,
                subst (λ (l : List Expr). AreRoots old.build.entered old.roots.items l) same may.held,
              );
        }

    pub may_follow :
        (n : ℕ) (mid : Underway) → n < count → AddsRows s names from place count n old mid → (drawings : ℕ) (roots : List Expr)
        → MayAdd drawings roots names place count old
        → MayFollow drawings (roots ++ roots_under s names from n) names (place + n) mid.build.entered mid.rows mid.builder
    may_follow n mid below so_far drawings roots may =
        let has = so_far.adds drawings roots may in
        let long : place + n ≡ length (roots ++ roots_under s names from n) =
        omega (
          arith,
          may.behind,
          length-append roots (roots_under s names from n),
          length-map-range_with_len (root_under s names) from n,
        ) in
        record {
          planned = has.0;
          none =
              subst (λ (l : List Area). first_limit l (roots ++ roots_under s names from n) ≡ None) (sym so_far.tiles) has.1;
          named = may.named;
          place = long;
          room = omega (arith, sym long, may.room, so_far.room);
        }

    pub one_added :
        (n : ℕ) (mid new : Underway) → n < count → AddsRows s names from place count n old mid
        → new.builder.plan.tiles ≡ mid.builder.plan.tiles → new.builder.rows ≡ mid.builder.rows → new.rows.tiles ≡ mid.rows.tiles
        → ((drawings : ℕ) (roots : List Expr) → MayFollow drawings roots names (place + n) mid.build.entered mid.rows mid.builder
        → Planned drawings (roots ++ root_under s names (from + n) ∷ []) new.build.entered new.rows new.builder
        × (first_limit mid.builder.plan.tiles (roots ++ root_under s names (from + n) ∷ []) ≡ None))
        → ((earlier : List Expr) → AreRoots mid.build.entered mid.roots.items earlier
        → AreRoots new.build.entered new.roots.items (earlier ++ root_under s names (from + n) ∷ []))
        → AddsRows s names from place count (n + 1) old new
    one_added n mid new below so_far tiles room many adds held =
        record {
          tiles = tiles ∙ so_far.tiles;
          room = room ∙ so_far.room;
          many = many ∙ so_far.many;
          adds = λ drawings roots may.
              let has = adds drawings (roots ++ roots_under s names from n) (may_follow n mid below so_far drawings roots may) in (
                subst (λ (l : List Expr). Planned drawings l new.build.entered new.rows new.builder) (behind_one_more roots n) has.0,
                subst (λ (l : List Expr). first_limit old.builder.plan.tiles l ≡ None) (behind_one_more roots n)
                    (subst (λ (l : List Area). first_limit l ((roots ++ roots_under s names from n) ++ root_under s names (from + n) ∷ []) ≡ None)
                    so_far.tiles has.1),
                subst (λ (l : List Expr). AreRoots new.build.entered new.roots.items l) (behind_one_more roots n)
                    (held (roots ++ roots_under s names from n) (so_far.adds drawings roots may).2),
              );
        }

    pub one_refused :
        (n : ℕ) (mid new last : Underway) (fault : PlanFault) (r : Result (Unit {0}) PlanFault) → n < count
        → AddsRows s names from place count n old mid
        → TriesRoot mid.builder new.builder mid.rows new.rows mid.build.entered new.build.entered names (place + n)
        (root_under s names (from + n)) r
        → r ≡ Err fault → TriesRows s names from place count old last (Err fault)
    one_refused n mid new last fault r below so_far tries refused =
        record {
          added = tt;
          limited = λ what limit same drawings roots may.
              let told = tries.limited what limit (refused ∙ same) drawings (roots ++ roots_under s names from n)
              (may_follow n mid below so_far drawings roots may) in
              let here : option_map what_of (first_limit old.builder.plan.tiles (roots ++ roots_under s names from (n + 1))) ≡ Some what =
              ap (λ (l : List Area). option_map what_of (first_limit l (roots ++ roots_under s names from (n + 1)))) (sym so_far.tiles)
              ∙ ap (λ (l : List Expr). option_map what_of (first_limit mid.builder.plan.tiles l)) (sym (behind_one_more roots n)) ∙ told.0 in (
                ap (λ (l : List Expr). option_map what_of (first_limit old.builder.plan.tiles l)) (sym (all_behind roots (n + 1) count (omega arith)))
                    ∙ told_first old.builder.plan.tiles (roots ++ roots_under s names from (n + 1)) (drop (n + 1) (roots_under s names from count))
                    what here,
                told.1,
              );
        }

    pub row_refused :
        (n : ℕ) (mid new : Underway) (r : Result (Unit {0}) PlanFault) → is_err r ≡ true → n < count → AddsRows s names from place count n old mid
        → TriesRoot mid.builder new.builder mid.rows new.rows mid.build.entered new.build.entered names (place + n)
        (root_under s names (from + n)) r
        → TriesRows s names from place count old new r
    row_refused n mid new r refused below so_far tries =
        let of = err_of r refused in
        subst (λ (x : Result (Unit {0}) PlanFault). TriesRows s names from place count old new x) (sym of.1)
        (one_refused n mid new new of.0 r below so_far tries of.1)

    pub all_added :
        (n : ℕ) (new : Underway) → n ≡ count → AddsRows s names from place count n old new
        → TriesRows s names from place count old new (Ok tt)
    all_added n new all so_far =
        record {
          added = subst (λ (k : ℕ). AddsRows s names from place count k old new) all so_far;
          limited = λ what limit same drawings roots may. absurd (ok_not_err tt (Told what limit) same);
        }

    pub row_added :
        (n : ℕ) (mid new : Underway) (r : Result (Unit {0}) PlanFault) → is_err r ≡ false → n < count → AddsRows s names from place count n old mid
        → OnOk r (new.rows.tiles ≡ mid.rows.tiles) → OnOk r (new.builder.plan.tiles ≡ mid.builder.plan.tiles)
        → OnOk r (new.builder.rows ≡ mid.builder.rows)
        → OnOk r ((earlier : List Expr) → AreRoots mid.build.entered mid.roots.items earlier
        → AreRoots new.build.entered new.roots.items (earlier ++ root_under s names (from + n) ∷ []))
        → TriesRoot mid.builder new.builder mid.rows new.rows mid.build.entered new.build.entered names (place + n)
        (root_under s names (from + n)) r
        → AddsRows s names from place count (n + 1) old new
    row_added n mid new r added below so_far many tiles room held tries =
        one_added n mid new below so_far (ok_of r _ added tiles) (ok_of r _ added room) (ok_of r _ added many)
        (ok_of r _ added tries.planned) (ok_of r _ added held)

    -- rows of this scene or another may follow them
    pub may_add_more :
        (n : ℕ) (new : Underway) → n ≡ count → AddsRows s names from place count n old new
        → (drawings : ℕ) (roots : List Expr) (others : List ℕ) (later : ℕ) → MayAdd drawings roots names place count old
        → All (λ name. name < drawings) others → place + count + later ≤ old.builder.rows
        → MayAdd drawings (roots ++ roots_under s names from count) others (place + count) later new
    may_add_more n new all so_far drawings roots others later may named few =
        let whole = subst (λ (k : ℕ). AddsRows s names from place count k old new) all so_far in
        let has = whole.adds drawings roots may in
        record {
          planned = has.0;
          none = subst (λ (l : List Area). first_limit l (roots ++ roots_under s names from count) ≡ None) (sym whole.tiles) has.1;
          held = has.2;
          named = named;
          behind =
              omega (
                arith,
                may.behind,
                length-append roots (roots_under s names from count),
                length-map-range_with_len (root_under s names) from count,
              );
          room = omega (arith, few, whole.room);
        }

no_limit_yet : (areas : List Area) → first_limit areas [] ≡ None
unfolding first_limit
no_limit_yet areas = refl

-- any rows may be the first
pub may_begin :
    (tiles : List Area) (rows : ℕ) (u : Underway) → u.builder ≡ empty_draft tiles rows → u.build.entered ≡ []
    → u.roots.items ≡ [] → ((drawings : ℕ) → Planned drawings [] [] u.rows u.builder) → (drawings : ℕ) (names : List ℕ) (count : ℕ)
    → All (λ name. name < drawings) names → count ≤ rows → MayAdd drawings [] names 0 count u
may_begin tiles rows u is none_entered no_root planned drawings names count named few =
    record {
      planned = subst (λ (l : List Spread). Planned drawings [] l u.rows u.builder) (sym none_entered) (planned drawings);
      none = no_limit_yet u.builder.plan.tiles;
      held = subst (λ (l : List ℕ). AreRoots u.build.entered l []) (sym no_root) (record { there = λ k n here. absurd (omega arith); are = refl });
      named = named;
      behind = refl;
      room = omega (arith, few, ap (λ (d : Draft). d.rows) is);
    }
