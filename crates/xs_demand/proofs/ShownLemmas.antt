-- The plans that show the roots of rows
use Rattle.std.proofs.Common.{◌≡◌, ◌+◌, ◌==◌, ℕ, Some, List, [], ◌∷◌, ◌++◌, All, Contains, map, flat_map, refl, sym, ap, ap₂, ◌∙◌, subst, cond}
use Rattle.std.specs.List.{AllZip}
use Rattle.std.proofs.lemmas.List.Folds.{map_fixed}
use Rattle.std.proofs.lemmas.List.Sums.{sum_by-append}
use Rattle.xs_pixel.specs.Channels.{Channels}
use Rattle.xs_rect.specs.Area.{Area}
use Rattle.xs_meaning.specs.Expressions.{Expr, Clear, Leaf, Tinted, Card, Pair, Blur}
use Rattle.xs_tint.specs.Tints.{tint_of}
use Rattle.xs_plan.specs.declared.job.Job.{Job}
use Rattle.xs_plan.specs.declared.job.Job.TheVariants as job
use Rattle.xs_plan.specs.Record.{Entry, PlanRecord}
use Rattle.xs_plan.specs.Reads.{port_sources, readers_of}
use Rattle.xs_demand.specs.Aliases.{Alias, inputs_of, aliases_of}
use Rattle.xs_demand.specs.Shown.{tint_in, tints_of, number_in, tint_number, job_of, entry_of, root_aliases, plan_of, StandsAt, ShowsJob, ShowsAlias, ShowsRoots, tints_shown, uses_of}
use Rattle.xs_demand.proofs.PlaceLemmas.{place_of, contained, Contains-head, Contains-tail}
use Rattle.xs_demand.proofs.VisitLemmas.{StandApart}
use Rattle.xs_demand.proofs.ReachLemmas.{aliases_apart, aliases_founded, aliases_visited}
use Rattle.xs_demand.proofs.NumberLemmas.{TintsApart, tint_number_is, tint_at_number, tints_apart, tint_there, places_are_numbers, numbers_are_places, count-places}

-- ---- a plan that shows the roots is the plan

job_is :
    (tints : List (List Channels)) → TintsApart tints → (e : Expr) (j : Job) → ShowsJob tints e j → j ≡ job_of tints e
job_is tints apart Clear j shows = shows
job_is tints apart (Leaf d at) j shows = shows
job_is tints apart (Tinted d at tint) j shows =
    shows.1 ∙ ap (λ t. job.Tinted d at.x at.y t) (tint_number_is tints apart tint shows.0 shows.2)
job_is tints apart (Card pixel) j shows = shows
job_is tints apart (Pair op a b) j shows = shows
job_is tints apart (Blur n a) j shows = shows

entry_is :
    (l : List Alias) → StandApart l → (tints : List (List Channels)) → TintsApart tints
    → (x : Alias) (e : Entry) → ShowsAlias l tints x e → e ≡ entry_of l tints x
entry_is l apart tints tints_apart x e shows =
    let same : e.job ≡ job_of tints x.expr = job_is tints tints_apart x.expr e.job shows.job in
    let on : e.rect ≡ x.rect = shows.rect in
    let reads : e.inputs ≡ map (number_in l) (inputs_of x) = places_are_numbers l apart (inputs_of x) e.inputs shows.inputs in
    λ i. record { job = same i; rect = on i; inputs = reads i }

entries_are :
    (l : List Alias) → StandApart l → (tints : List (List Channels)) → TintsApart tints
    → (xs : List Alias) (es : List Entry) → AllZip (ShowsAlias l tints) xs es → es ≡ map (entry_of l tints) xs
entries_are l apart tints tints_apart [] [] shows = refl
entries_are l apart tints tints_apart [] (e ∷ es) shows = absurd shows
entries_are l apart tints tints_apart (x ∷ xs) [] shows = absurd shows
entries_are l apart tints tints_apart (x ∷ xs) (e ∷ es) shows =
    ap₂ (λ y ys. y ∷ ys) (entry_is l apart tints tints_apart x e shows.0)
    (entries_are l apart tints tints_apart xs es shows.1)

pub shown_is_the_plan :
    (tiles : List Area) (roots : List Expr) (p : PlanRecord) → ShowsRoots tiles roots p
    → record p { tints = tints_shown p } ≡ plan_of tiles roots p.drawings
unfolding plan_of
shown_is_the_plan tiles roots p shows =
    let l = aliases_of tiles roots in
    let apart = aliases_apart tiles roots in
    let tints : tints_shown p ≡ tints_of l = shows.tints in
    let entries : p.entries ≡ map (entry_of l (tints_of l)) l =
    entries_are l apart (tints_of l) (tints_apart l) l p.entries
    (subst (λ t. AllZip (ShowsAlias l t) l p.entries) tints shows.entries) in
    let rows : p.roots ≡ map (number_in l) (root_aliases tiles roots) =
    places_are_numbers l apart (root_aliases tiles roots) p.roots shows.rows in
    λ i. record {
      tiles = shows.frame i;
      entries = entries i;
      roots = rows i;
      ends = shows.ends i;
      tints = tints i;
      drawings = p.drawings;
    }

-- ---- the plan shows its roots

shows_job :
    (l : List Alias) (x : Alias) → Contains l x → ShowsJob (tints_of l) x.expr (job_of (tints_of l) x.expr)
shows_job l x there = by_kind x.expr (λ tint. tint_there l x tint there)
  where
    by_kind : (e : Expr) → ((tint : List Channels) → tint_in e ≡ Some tint → Contains (tints_of l) tint)
        → ShowsJob (tints_of l) e (job_of (tints_of l) e)
    by_kind Clear tinted = refl
    by_kind (Leaf d at) tinted = refl
    by_kind (Tinted d at tint) tinted = (
      tint_number (tints_of l) tint,
      refl,
      tint_at_number (tints_of l) (tints_apart l) tint (tinted tint refl),
    )
    by_kind (Card pixel) tinted = refl
    by_kind (Pair op a b) tinted = refl
    by_kind (Blur n a) tinted = refl

shows_entries :
    (tiles : List Area) (roots : List Expr) (xs : List Alias) → ((x : Alias) → Contains xs x → Contains (aliases_of tiles roots) x)
    → AllZip (ShowsAlias (aliases_of tiles roots) (tints_of (aliases_of tiles roots))) xs
    (map (entry_of (aliases_of tiles roots) (tints_of (aliases_of tiles roots))) xs)
shows_entries tiles roots [] there = tt
shows_entries tiles roots (x ∷ xs) there =
    let l = aliases_of tiles roots in
    let here : Contains l x = there x (Contains-head x xs) in (
      record {
        job = shows_job l x here;
        rect = refl;
        inputs =
            numbers_are_places l (aliases_apart tiles roots) (inputs_of x)
            (λ input among.
            let place = place_of l x here in
            let before = aliases_founded tiles roots x place.0 place.2 input among in
            contained l before.0 input before.2);
      },
      shows_entries tiles roots xs (λ y among. there y (Contains-tail x xs y among)),
    )

pub plan_shows_roots :
    (tiles : List Area) (roots : List Expr) (drawings : ℕ) → All (λ t. tint_of t ≡ t) (tints_of (aliases_of tiles roots))
    → ShowsRoots tiles roots (plan_of tiles roots drawings)
unfolding plan_of
plan_shows_roots tiles roots drawings canonical =
    let l = aliases_of tiles roots in
    let tints : map tint_of (tints_of l) ≡ tints_of l = map_fixed tint_of (tints_of l) canonical in
    record {
      frame = refl;
      entries =
          subst (λ t. AllZip (ShowsAlias l t) l (map (entry_of l (tints_of l)) l)) (sym tints)
          (shows_entries tiles roots l (λ x there. there));
      rows = numbers_are_places l (aliases_apart tiles roots) (root_aliases tiles roots) (aliases_visited tiles roots).there;
      ends = refl;
      tints = tints;
    }

-- ---- readers

AllZip-append :
    {A B : Type 0} (R : A → B → Type 0) (xs : List A) (ys : List B) (others : List A) (more : List B)
    → AllZip R xs ys → AllZip R others more → AllZip R (xs ++ others) (ys ++ more)
AllZip-append R [] [] others more first last = last
AllZip-append R [] (y ∷ ys) others more first last = absurd first
AllZip-append R (x ∷ xs) [] others more first last = absurd first
AllZip-append R (x ∷ xs) (y ∷ ys) others more first last = (first.0, AllZip-append R xs ys others more first.1 last)

-- the aliases that are read at ports, by their places
pub inputs_by_places :
    (l : List Alias) (tints : List (List Channels)) (xs : List Alias) (es : List Entry) → AllZip (ShowsAlias l tints) xs es
    → AllZip (StandsAt l) (flat_map inputs_of xs) (port_sources es)
inputs_by_places l tints [] [] shows = tt
inputs_by_places l tints [] (e ∷ es) shows = absurd shows
inputs_by_places l tints (x ∷ xs) [] shows = absurd shows
inputs_by_places l tints (x ∷ xs) (e ∷ es) shows =
    AllZip-append (StandsAt l) (inputs_of x) e.inputs (flat_map inputs_of xs) (port_sources es) shows.0.inputs
    (inputs_by_places l tints xs es shows.1)

pub readers_used :
    (tiles : List Area) (roots : List Expr) (p : PlanRecord) → ShowsRoots tiles roots p
    → (x : Alias) (k : ℕ) → StandsAt (aliases_of tiles roots) x k → readers_of p k ≡ uses_of tiles roots x
readers_used tiles roots p shows x k at =
    let l = aliases_of tiles roots in
    let apart = aliases_apart tiles roots in
    sum_by-append (λ source. cond (source == k) 1 0) (port_sources p.entries) p.roots
    ∙ ap₂ (λ m n. m + n)
    (count-places l apart x k at (flat_map inputs_of l) (port_sources p.entries)
    (inputs_by_places l (tints_shown p) l p.entries shows.entries))
    (count-places l apart x k at (root_aliases tiles roots) p.roots shows.rows)
