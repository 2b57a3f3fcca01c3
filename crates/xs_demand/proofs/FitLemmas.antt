-- No limit is passed where all fits
use Rattle.std.proofs.Common.{◌≡◌, ◌<◌, ◌≤◌, ◌+◌, ◌*◌, ℕ, None, List, [], ◌∷◌, All, length, refl, sym, ap, ◌∙◌, subst, arith, suc-mul}
use Rattle.std.specs.Option.{option_or}
use Rattle.std.proofs.lemmas.List.{length-append}
use Rattle.std.proofs.lemmas.List.Elements.{All-nil, All-cons, All-head, All-tail}
use Rattle.std.proofs.lemmas.List.Sums.{sum_by-append}
use Rattle.xs_rect.specs.Area.{Area}
use Rattle.xs_meaning.specs.Expressions.{Expr, reach_of}
use Rattle.xs_plan.specs.declared.limits.TheConstants.{MOST_ALIASES, MOST_READS, FARTHEST_REACH}
use Rattle.xs_demand.specs.Aliases.{Alias, inputs_of, inputs_in, on_tiles, visit, visit_tiles, visit_rows, aliases_of}
use Rattle.xs_demand.specs.Limits.{limit_passed, first_limit, first_limit_on, first_limit_from}
use Rattle.xs_demand.specs.Shown.{root_aliases}
use Rattle.xs_demand.proofs.VisitLemmas.{Visits, visits_tiles, visits_rows}
use Rattle.xs_demand.proofs.LimitLemmas.{or_none, by_none, found_on_the_way}

-- some aliases and so many rows and tiles are not too many
pub record Fits (l : List Alias) (visited : ℕ) : Type 0 where
  pub aliases : length l ≤ MOST_ALIASES
  pub reads : inputs_in l + visited ≤ MOST_READS

abbrev pub LooksNear : Expr → Type 0
LooksNear e = reach_of e ≤ FARTHEST_REACH

-- a list that grew has no fewer aliases and inputs
fits_before :
    (xs l m : List Alias) (fewer more : ℕ) → Visits xs l m → fewer ≤ more → Fits m more → Fits l fewer
fits_before xs l m fewer more v less fits =
    let aliases = fits.aliases in
    let reads = fits.reads in
    let longer : length m ≡ length l + length v.added = ap length v.is ∙ length-append l v.added in
    let deeper : inputs_in m ≡ inputs_in l + inputs_in v.added =
    ap inputs_in v.is ∙ sum_by-append (λ (x : Alias). length (inputs_of x)) l v.added in
    record { aliases = omega arith; reads = omega arith }

-- ---- where none is passed, all fits

fits_on :
    (e : Expr) (tiles : List Area) (l : List Alias) (visited : ℕ) → Fits l visited → first_limit_on e tiles l visited ≡ None
    → Fits (visit_tiles e tiles l) (visited + length tiles)
fits_on e [] l visited fits none = subst (Fits l) (omega arith) fits
fits_on e (tile ∷ tiles) l visited fits none =
    let both =
    or_none (limit_passed e (visit e tile l) (visited + 1)) (first_limit_on e tiles (visit e tile l) (visited + 1)) none in
    let here = (by_none e (visit e tile l) (visited + 1)).0 both.0 in
    let rest = fits_on e tiles (visit e tile l) (visited + 1) (record { aliases = here.1; reads = here.2 }) both.1 in
    subst (Fits (visit_tiles e tiles (visit e tile l))) (omega arith) rest

near_on :
    (e : Expr) (tiles : List Area) (l : List Alias) (visited : ℕ) → 0 < length tiles → first_limit_on e tiles l visited ≡ None
    → LooksNear e
near_on e [] l visited some none = absurd (omega arith)
near_on e (tile ∷ tiles) l visited some none =
    let both =
    or_none (limit_passed e (visit e tile l) (visited + 1)) (first_limit_on e tiles (visit e tile l) (visited + 1)) none in
    ((by_none e (visit e tile l) (visited + 1)).0 both.0).0

rows_fit :
    (tiles : List Area) (roots : List Expr) (l : List Alias) (visited : ℕ) → Fits l visited → first_limit_from tiles roots l visited ≡ None
    → Fits (visit_rows tiles roots l) (visited + length roots * length tiles)
rows_fit tiles [] l visited fits none = subst (Fits l) (omega arith) fits
rows_fit tiles (e ∷ roots) l visited fits none =
    let m = visit_tiles e tiles l in
    let both = or_none (first_limit_on e tiles l visited) (first_limit_from tiles roots m (visited + length tiles)) none in
    let rest = rows_fit tiles roots m (visited + length tiles) (fits_on e tiles l visited fits both.0) both.1 in
    subst (Fits (visit_rows tiles roots m)) (omega (arith, suc-mul (length roots) (length tiles))) rest

rows_near :
    (tiles : List Area) (roots : List Expr) (l : List Alias) (visited : ℕ) → 0 < length tiles
    → first_limit_from tiles roots l visited ≡ None → All LooksNear roots
rows_near tiles [] l visited some none = All-nil LooksNear
rows_near tiles (e ∷ roots) l visited some none =
    let m = visit_tiles e tiles l in
    let both = or_none (first_limit_on e tiles l visited) (first_limit_from tiles roots m (visited + length tiles)) none in
    All-cons LooksNear e roots (near_on e tiles l visited some both.0)
    (rows_near tiles roots m (visited + length tiles) some both.1)

-- ---- where all fits, none is passed

none_on :
    (e : Expr) (tiles : List Area) (l : List Alias) (visited : ℕ) → LooksNear e
    → Fits (visit_tiles e tiles l) (visited + length tiles) → first_limit_on e tiles l visited ≡ None
none_on e [] l visited near fits = refl
none_on e (tile ∷ tiles) l visited near fits =
    let m = visit e tile l in
    let all : Fits (visit_tiles e tiles m) (visited + 1 + length tiles) = subst (Fits (visit_tiles e tiles m)) (omega arith) fits in
    let here = fits_before (on_tiles tiles e) m (visit_tiles e tiles m) (visited + 1) (visited + 1 + length tiles)
    (visits_tiles e tiles m) (omega arith) all in
    let passes : limit_passed e m (visited + 1) ≡ None = (by_none e m (visited + 1)).1 (near, here.aliases, here.reads) in
    ap (λ x. option_or x (first_limit_on e tiles m (visited + 1))) passes ∙ none_on e tiles m (visited + 1) near all

none_from_rows :
    (tiles : List Area) (roots : List Expr) (l : List Alias) (visited : ℕ) → All LooksNear roots
    → Fits (visit_rows tiles roots l) (visited + length roots * length tiles) → first_limit_from tiles roots l visited ≡ None
none_from_rows tiles [] l visited near fits = refl
none_from_rows tiles (e ∷ roots) l visited near fits =
    let m = visit_tiles e tiles l in
    let count = visited + length tiles + length roots * length tiles in
    let all : Fits (visit_rows tiles roots m) count =
    subst (Fits (visit_rows tiles roots m)) (omega (arith, suc-mul (length roots) (length tiles))) fits in
    let here = fits_before (root_aliases tiles roots) m (visit_rows tiles roots m) (visited + length tiles) count
    (visits_rows tiles roots m) (omega arith) all in
    ap (λ x. option_or x (first_limit_from tiles roots m (visited + length tiles)))
    (none_on e tiles l visited (All-head LooksNear e roots near) here)
    ∙ none_from_rows tiles roots m (visited + length tiles) (All-tail LooksNear e roots near) all

-- ---- all rows

abbrev pub AllFits : List Area → List Expr → Type 0
AllFits tiles roots =
    All LooksNear roots × (length (aliases_of tiles roots) ≤ MOST_ALIASES)
    × (inputs_in (aliases_of tiles roots) + length roots * length tiles ≤ MOST_READS)

pub all_fits : (tiles : List Area) (roots : List Expr) → 0 < length tiles → first_limit tiles roots ≡ None → AllFits tiles roots
unfolding aliases_of
all_fits tiles roots some none =
    let on_the_way = sym (found_on_the_way tiles roots) ∙ none in
    let fits = rows_fit tiles roots [] 0 (record { aliases = omega arith; reads = omega arith }) on_the_way in
    (rows_near tiles roots [] 0 some on_the_way, fits.aliases, omega (arith, fits.reads))

pub none_where_all_fits : (tiles : List Area) (roots : List Expr) → AllFits tiles roots → first_limit tiles roots ≡ None
unfolding aliases_of
none_where_all_fits tiles roots fits =
    found_on_the_way tiles roots
    ∙ none_from_rows tiles roots [] 0 fits.0 (record { aliases = fits.1; reads = omega (arith, fits.2) })
