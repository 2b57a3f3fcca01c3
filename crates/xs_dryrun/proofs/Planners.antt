-- What a planner holds
use Rattle.std.proofs.Common.{◌≡◌, ◌<◌, ◌≤◌, ◌+◌, ◌*◌, ◌++◌, ℕ, zero, suc, Bool, true, false, true≢false, None, Result, Ok, Err, OnErr, List, [], ◌∷◌, All, length, map, refl, sym, ap, ap₂, ◌∙◌, subst, arith}
use Rattle.std.specs.List.{range_with_len}
use Rattle.std.proofs.lemmas.List.{length-map}
use Rattle.std.proofs.lemmas.List.Elements.{All-cons}
use Rattle.std.proofs.lemmas.List.FromFn.{get_or-range_with_len, length-map-range_with_len}
use Rattle.xs_rect.specs.Area.{Area}
use Rattle.xs_scene.specs.Records.{SceneRecord}
use Rattle.xs_meaning.specs.Expressions.{Expr, root_of}
use Rattle.xs_demand.specs.Aliases.{aliases_of}
use Rattle.xs_demand.specs.Blocks.{Spread}
use Rattle.xs_demand.specs.Limits.{first_limit}
use Rattle.xs_demand.specs.Renamed.{renamed, HasBelow}
use Rattle.xs_demand.proofs.BlockNumbers.{length-aliases}
use Rattle.xs_build.specs.States.{expr_at, named}
use Rattle.xs_dryrun.specs.declared.next.Underway.{Underway}
use Rattle.xs_dryrun.specs.declared.limits.PlanFault.{PlanFault}
use Rattle.xs_dryrun.specs.Planned.{Planned}
use Rattle.xs_dryrun.specs.Adding.{root_under, roots_under, MayAdd, AddsRows}
use Rattle.xs_dryrun.specs.Planning.{Planning, planning, roots_in, roots_so_far, IsUnderway, IsPlanner}

module _ (tiles : List Area) (rows drawings : ℕ) where
  pub first_underway :
      (u : Underway) → MayAdd drawings [] [] 0 0 u → u.builder.plan.tiles ≡ tiles → u.builder.rows ≡ rows
      → u.rows.tiles ≡ length tiles → IsUnderway tiles rows drawings u
  first_underway u may same room many =
      let none : [] ≡ roots_in u = sym may.held.are in
      record {
        planned = subst (λ (l : List Expr). Planned drawings l u.build.entered u.rows u.builder) none may.planned;
        none = subst (λ (l : List Expr). first_limit u.builder.plan.tiles l ≡ None) none may.none;
        there = may.held.there;
        same_tiles = same;
        room = room;
        many = many;
      }

  pub may_add :
      (u : Underway) → IsUnderway tiles rows drawings u → (names : List ℕ) (place count : ℕ) → All (λ name. name < drawings) names
      → place ≡ length u.roots.items → length (roots_in u) + count ≤ rows → MayAdd drawings (roots_in u) names place count u
  may_add u is names place count below behind room =
      let many : length (roots_in u) ≡ length u.roots.items = length-map u.roots.items (expr_at u.build.entered) in
      record {
        planned = is.planned;
        none = is.none;
        held = record { there = is.there; are = refl };
        named = below;
        behind = behind ∙ sym many;
        room = omega (arith, room, behind, many, is.room);
      }

  pub underway_after :
      (s : SceneRecord) (names : List ℕ) (from place count : ℕ) (old new : Underway) → IsUnderway tiles rows drawings old
      → MayAdd drawings (roots_in old) names place count old → AddsRows s names from place count count old new
      → IsUnderway tiles rows drawings new
  underway_after s names from place count old new is may adds =
      let has = adds.adds drawings (roots_in old) may in
      let more = roots_in old ++ roots_under s names from count in
      let same : more ≡ roots_in new = sym has.2.are in
      record {
        planned = subst (λ (l : List Expr). Planned drawings l new.build.entered new.rows new.builder) same has.0;
        none =
            subst (λ (l : List Expr). first_limit new.builder.plan.tiles l ≡ None) same
            (subst (λ (l : List Area). first_limit l more ≡ None) (sym adds.tiles) has.1);
        there = has.2.there;
        same_tiles = adds.tiles ∙ is.same_tiles;
        room = adds.room ∙ is.room;
        many = adds.many ∙ is.many;
      }

  pub aliases_counted :
      (lost : Bool) (u : Underway) → lost ≡ false → IsPlanner tiles rows drawings lost u
      → length u.builder.plan.entries ≡ length (aliases_of tiles (roots_so_far lost u))
  aliases_counted true u wrong is = absurd (true≢false wrong)
  aliases_counted false u whole is =
      let w = is.underway refl in
      let f = w.planned.filling in
      w.planned.filled ∙ ap (λ (m : List Spread). length u.builder.plan.tiles * length m) f.entered
      ∙ sym (length-aliases u.builder.plan.tiles (roots_in u) f.frame.apart)
      ∙ ap (λ (t : List Area). length (aliases_of t (roots_in u))) w.same_tiles

  pub none_where_lost : (lost : Bool) (u : Underway) → lost ≡ true → 0 ≡ length (aliases_of tiles (roots_so_far lost u))
  unfolding aliases_of
  none_where_lost true u lost = refl
  none_where_lost false u wrong = absurd (true≢false (sym wrong))

  -- the rows of a lost plan are not all there
  pub whole_where_full :
      (lost : Bool) (u : Underway) → IsPlanner tiles rows drawings lost u → length (roots_so_far lost u) ≡ rows → lost ≡ false
  whole_where_full true u is full = absurd (omega (arith, is.some_rows, full))
  whole_where_full false u is full = refl

-- ---- what contracts see of it

pub added_roots :
    (lost : Bool) (old new : Underway) (more : List Expr) → lost ≡ false → roots_in new ≡ roots_in old ++ more
    → roots_so_far lost new ≡ roots_so_far lost old ++ more
added_roots true old new more wrong is = absurd (true≢false wrong)
added_roots false old new more whole is = is

pub roots_whole : (lost : Bool) (u : Underway) → lost ≡ false → roots_so_far lost u ≡ roots_in u
roots_whole true u wrong = absurd (true≢false wrong)
roots_whole false u whole = refl

pub on_either : (r : Result (Unit {0}) PlanFault) (P : Type 0) → P → OnErr r P
on_either (Ok x) P p = tt
on_either (Err fault) P p = p

module _ (tiles : List Area) (rows drawings : ℕ) (lost : Bool) (u : Underway) (old : Planning)
    (view : planning tiles rows drawings (roots_so_far lost u) ≡ old) where
  pub no_row_left : planning tiles rows drawings [] ≡ record old { roots = [] }
  no_row_left = subst (λ (p : Planning). planning tiles rows drawings [] ≡ record p { roots = [] }) view refl

  pub rows_behind :
      (new : Underway) (more : List Expr) → lost ≡ false → roots_in new ≡ roots_in u ++ more
      → planning tiles rows drawings (roots_so_far lost new) ≡ record old { roots = old.roots ++ more }
  rows_behind new more whole same =
      subst (λ (p : Planning). planning tiles rows drawings (roots_so_far lost new) ≡ record p { roots = p.roots ++ more }) view
      (ap (λ (l : List Expr). planning tiles rows drawings l) (added_roots lost u new more whole same))

  pub tiles_seen : IsUnderway tiles rows drawings u → u.builder.plan.tiles ≡ old.tiles
  tiles_seen is = is.same_tiles ∙ ap (λ (p : Planning). p.tiles) view

  pub roots_seen : lost ≡ false → roots_in u ≡ old.roots
  roots_seen whole = sym (roots_whole lost u whole) ∙ ap (λ (p : Planning). p.roots) view

  pub limit_seen :
      lost ≡ false → IsUnderway tiles rows drawings u → (more : List Expr)
      → first_limit old.tiles (old.roots ++ more) ≡ first_limit u.builder.plan.tiles (roots_in u ++ more)
  limit_seen whole is more =
      ap₂ (λ (t : List Area) (l : List Expr). first_limit t (l ++ more)) (sym (tiles_seen is)) (sym (roots_seen whole))

  pub rows_may_follow :
      lost ≡ false → IsUnderway tiles rows drawings u → (names : List ℕ) (place count : ℕ) → All (λ name. name < old.drawings) names
      → place ≡ length u.roots.items → length old.roots + count ≤ old.rows → MayAdd drawings (roots_in u) names place count u
  rows_may_follow whole is names place count below behind room =
      may_add tiles rows drawings u is names place count
      (subst (λ (p : Planning). All (λ name. name < p.drawings) names) (sym view) below) behind
      (subst (λ (l : List Expr). length l + count ≤ rows) (roots_whole lost u whole)
      (subst (λ (p : Planning). length p.roots + count ≤ p.rows) (sym view) room))

  pub whole_once_full : IsPlanner tiles rows drawings lost u → length old.roots ≡ old.rows → lost ≡ false
  whole_once_full is full =
      whole_where_full tiles rows drawings lost u is (subst (λ (p : Planning). length p.roots ≡ p.rows) (sym view) full)

  pub full_count : lost ≡ false → IsUnderway tiles rows drawings u → length old.roots ≡ old.rows → length (roots_in u) ≡ u.builder.rows
  full_count whole is full =
      ap length (roots_seen whole) ∙ full ∙ sym (ap (λ (p : Planning). p.rows) view) ∙ sym is.room

-- ---- own names

range_more : (a n : ℕ) → range_with_len a (suc n) ≡ range_with_len a n ++ (a + n) ∷ []
range_more a zero = ap (λ (x : ℕ). x ∷ []) (let e : a ≡ a + 0 = omega arith in e)
range_more a (suc n) =
    ap (λ (l : List ℕ). a ∷ l)
    (range_more (a + 1) n
    ∙ ap (λ (x : ℕ). range_with_len (a + 1) n ++ x ∷ []) (let e : (a + 1) + n ≡ a + suc n = omega arith in e))

pub range_next : (n : ℕ) → range_with_len 0 (n + 1) ≡ range_with_len 0 n ++ n ∷ []
range_next n =
    ap (λ (k : ℕ). range_with_len 0 k) (let e : n + 1 ≡ suc n = omega arith in e) ∙ range_more 0 n
    ∙ ap (λ (x : ℕ). range_with_len 0 n ++ x ∷ []) (let e : 0 + n ≡ n = omega arith in e)

pub range_below : (a n most : ℕ) → a + n ≤ most → All (λ k. k < most) (range_with_len a n)
range_below a zero most le = λ k d here. absurd (omega arith)
range_below a (suc n) most le =
    All-cons (λ (k : ℕ). k < most) a (range_with_len (a + 1) n) (omega arith) (range_below (a + 1) n most (omega arith))

pub own_name : (count d : ℕ) → d < count → named (range_with_len 0 count) d ≡ d
own_name count d below = get_or-range_with_len 0 count d 0 below ∙ (let e : 0 + d ≡ d = omega arith in e)

mapped_alike :
    (f g : ℕ → Expr) → ((x : ℕ) → f x ≡ g x) → (l : List ℕ) → map f l ≡ map g l
mapped_alike f g same [] = refl
mapped_alike f g same (x ∷ l) = ap₂ (λ (y : Expr) (m : List Expr). y ∷ m) (same x) (mapped_alike f g same l)

pub own_roots :
    (s : SceneRecord) (names : List ℕ) (from count : ℕ) → ((row : ℕ) → root_under s names row ≡ root_of s row)
    → roots_under s names from count ≡ map (root_of s) (range_with_len from count)
own_roots s names from count same = mapped_alike (root_under s names) (root_of s) same (range_with_len from count)

pub many_roots : (s : SceneRecord) (names : List ℕ) (from count : ℕ) → length (roots_under s names from count) ≡ count
many_roots s names from count = length-map-range_with_len (root_under s names) from count

-- under own names the roots are those of the scene's rows
pub roots_by_own_names :
    (s : SceneRecord) (names : List ℕ) (count from many : ℕ) → names ≡ range_with_len 0 count
    → ((count : ℕ) (names : ℕ → ℕ) → ((d : ℕ) → d < count → names d ≡ d) → (e : Expr) → HasBelow count e → renamed names e ≡ e)
    → ((row : ℕ) → HasBelow count (root_of s row))
    → roots_under s names from many ≡ map (root_of s) (range_with_len from many)
roots_by_own_names s names count from many are law below =
    own_roots s names from many
    (λ row. law count (named names) (λ d there. ap (λ (l : List ℕ). named l d) are ∙ own_name count d there) (root_of s row) (below row))
