-- A row more in a plan
use Rattle.std.proofs.Common.{◌≡◌, ◌<◌, ◌≤◌, ◌+◌, ◌-◌, ◌*◌, ◌++◌, ℕ, Some, List, [], ◌∷◌, All, length, take, slice_get, refl, sym, ap, ap₂, ◌∙◌, subst, append_assoc, arith}
use Rattle.std.specs.List.{AllZip}
use Rattle.std.proofs.Math.Nat.{mul-add}
use Rattle.std.proofs.lemmas.List.{append-nil, take_all}
use Rattle.std.proofs.lemmas.List.Elements.{All-push}
use Rattle.std.proofs.lemmas.Option.{slice_get_within}
use Rattle.xs_pixel.specs.Channels.{Channels}
use Rattle.xs_rect.specs.Area.{Area}
use Rattle.xs_meaning.specs.Expressions.{Expr, Clear, Leaf, Tinted, Card, Pair, Blur, reach_of}
use Rattle.xs_plan.specs.declared.limits.TheConstants.{FARTHEST_REACH, MOST_ALIASES}
use Rattle.xs_plan.specs.declared.job.Job.{Job}
use Rattle.xs_plan.specs.Record.{Entry}
use Rattle.xs_plan.specs.Draft.{Draft}
use Rattle.xs_demand.specs.Aliases.{Alias, inputs_of, on_tiles, visit_tiles, visit_rows, aliases_of}
use Rattle.xs_demand.specs.Blocks.{Spread, spread, enter, enter_rows}
use Rattle.xs_demand.specs.Fit.{IsFit}
use Rattle.xs_demand.specs.Shown.{StandsAt, ShowsJob, ends_of, root_aliases, tints_shown}
use Rattle.xs_demand.proofs.BlockNumbers.{length-aliases}
use Rattle.xs_demand.proofs.PassedOn.{fit_rows, within_rows}
use Rattle.xs_demand.proofs.PlaceLemmas.{place-append}
use Rattle.xs_demand.proofs.VisitLemmas.{visits_tiles, visit_rows-append}
use Rattle.xs_entered.specs.Entered.{spread_at, tints_entered}
use Rattle.xs_entered.proofs.Adding.{count_adds, tints_keep}
use Rattle.xs_dryrun.specs.declared.rows.Rows.{Rows}
use Rattle.xs_dryrun.specs.Numbers.{AreNumbers}
use Rattle.xs_dryrun.specs.Filling.{Shows, Filling, IsFrame, IsSpread}
use Rattle.xs_dryrun.specs.Row.{IsRowStart, FillsRowTo}
use Rattle.xs_dryrun.specs.Planned.{Planned, AddsTints, IsEntered}
use Rattle.xs_dryrun.proofs.Numbering.{enter_rows-push}

-- ---- what was shown stays shown

zip_more :
    (all more : List Alias) (xs : List Alias) (ks : List ℕ) → AllZip (StandsAt all) xs ks → AllZip (StandsAt (all ++ more)) xs ks
zip_more all more [] [] zip = tt
zip_more all more [] (k ∷ ks) zip = absurd zip
zip_more all more (x ∷ xs) [] zip = absurd zip
zip_more all more (x ∷ xs) (k ∷ ks) zip = (place-append all more k x zip.0, zip_more all more xs ks zip.1)

job_more :
    (was now : List (List Channels)) → ((t : ℕ) (tint : List Channels) → slice_get was t ≡ Some tint → slice_get now t ≡ Some tint)
    → (e : Expr) (j : Job) → ShowsJob was e j → ShowsJob now e j
job_more was now kept Clear j is = is
job_more was now kept (Leaf d at) j is = is
job_more was now kept (Tinted d at tint) j is = (is.0, is.1, kept is.0 tint is.2)
job_more was now kept (Card pixel) j is = is
job_more was now kept (Pair op a b) j is = is
job_more was now kept (Blur n a) j is = is

aliases_more :
    (areas : List Area) (roots : List Expr) (e : Expr)
    → (more : List Alias) × (aliases_of areas (roots ++ e ∷ []) ≡ aliases_of areas roots ++ more)
unfolding aliases_of
aliases_more areas roots e =
    let v = visits_tiles e areas (visit_rows areas roots []) in
    (v.added, visit_rows-append areas roots (e ∷ []) [] ∙ v.is)

-- ---- lists of rows

root_aliases-push :
    (areas : List Area) (roots : List Expr) (e : Expr) → root_aliases areas (roots ++ e ∷ []) ≡ root_aliases areas roots ++ on_tiles areas e
root_aliases-push areas [] e = append-nil (on_tiles areas e)
root_aliases-push areas (r ∷ roots) e =
    ap (λ (xs : List Alias). on_tiles areas r ++ xs) (root_aliases-push areas roots e)
    ∙ sym (append_assoc (on_tiles areas r) (root_aliases areas roots) (on_tiles areas e))

ends_of-push :
    (areas : List Area) (roots : List Expr) (e : Expr) (l : List Alias)
    → ends_of areas (roots ++ e ∷ []) l ≡ ends_of areas roots l ++ length (visit_tiles e areas (visit_rows areas roots l)) ∷ []
ends_of-push areas [] e l = refl
ends_of-push areas (r ∷ roots) e l =
    ap (λ (ends : List ℕ). length (visit_tiles r areas l) ∷ ends) (ends_of-push areas roots e (visit_tiles r areas l))

last_end :
    (areas : List Area) (roots : List Expr) (e : Expr)
    → length (visit_tiles e areas (visit_rows areas roots [])) ≡ length (aliases_of areas (roots ++ e ∷ []))
unfolding aliases_of
last_end areas roots e = ap length (sym (visit_rows-append areas roots (e ∷ []) []))

-- ---- the start of a row

module _
    (drawings : ℕ) (roots : List Expr) (e : Expr) (was now : List Spread) (rows later : Rows) (old d : Draft) (root : ℕ)
    (planned : Planned drawings roots was rows old) (only : AddsTints old d) (is : IsEntered drawings roots e was now root old)
    (tints : tints_shown d.plan ≡ tints_entered now)
    (numbers : AreNumbers (length d.plan.tiles) (roots ++ e ∷ []) later.firsts.items later.strides.items) where
  abbrev all : List Expr
  all = roots ++ e ∷ []

  same_tiles : d.plan.tiles ≡ old.plan.tiles
  same_tiles = ap (λ (x : Draft). x.plan.tiles) only

  same_entries : d.plan.entries ≡ old.plan.entries
  same_entries = ap (λ (x : Draft). x.plan.entries) only

  all_entered : now ≡ enter_rows all []
  all_entered =
      is.is ∙ ap (λ (l : List Spread). enter e 0 l) planned.filling.entered ∙ sym (enter_rows-push roots e [])

  all_fit : All (IsFit drawings) all
  all_fit = All-push (IsFit drawings) roots e planned.fit is.fit

  all_near : All (λ r. reach_of r ≤ FARTHEST_REACH) all
  all_near = All-push (λ (r : Expr). reach_of r ≤ FARTHEST_REACH) roots e planned.near is.near

  tint_kept : (t : ℕ) (tint : List Channels) → slice_get (tints_shown old.plan) t ≡ Some tint → slice_get (tints_shown d.plan) t ≡ Some tint
  tint_kept t tint here =
      let there : slice_get (tints_entered was) t ≡ Some tint =
      ap (λ (ts : List (List Channels)). slice_get ts t) (sym planned.filling.tints) ∙ here in
      ap (λ (ts : List (List Channels)). slice_get ts t) (tints ∙ ap tints_entered is.is)
      ∙ tints_keep e 0 t was (slice_get_within (tints_entered was) t tint there) ∙ there

  abbrev grown : (more : List Alias) × (aliases_of old.plan.tiles (roots ++ e ∷ []) ≡ aliases_of old.plan.tiles roots ++ more)
  grown = aliases_more old.plan.tiles roots e

  whole : aliases_of d.plan.tiles all ≡ aliases_of old.plan.tiles roots ++ grown.0
  whole = ap (λ (areas : List Area). aliases_of areas all) same_tiles ∙ grown.1

  pub filling_more : Filling drawings all now later d
  filling_more =
      let f = planned.filling in
      record {
        frame = subst (λ (areas : List Area). IsFrame areas) (sym same_tiles) f.frame;
        entered = all_entered;
        spreads = λ j here.
            let within : j < length (enter_rows all []) = omega (arith, here, ap length all_entered) in
            subst (λ (l : List Spread). IsSpread drawings (spread_at l j)) (sym all_entered)
            (record {
              fit = fit_rows drawings all all_fit j (spread Clear 0) within;
              near = within_rows FARTHEST_REACH all all_near j (spread Clear 0) within;
            });
        numbers = numbers;
        few = subst (λ (areas : List Area). length (aliases_of areas all) ≤ MOST_ALIASES) (sym same_tiles) is.few;
        tints = tints;
        entries = λ k entry at.
            let shown = f.entries k entry (ap (λ (es : List Entry). slice_get es k) (sym same_entries) ∙ at) in
            subst (λ (l : List Alias). Shows l (tints_shown d.plan) k entry) (sym whole)
            (record {
              of = shown.of;
              stands = place-append (aliases_of old.plan.tiles roots) grown.0 k shown.of shown.stands;
              shows =
                  record {
                    job = job_more (tints_shown old.plan) (tints_shown d.plan) tint_kept shown.of.expr entry.job shown.shows.job;
                    rect = shown.shows.rect;
                    inputs = zip_more (aliases_of old.plan.tiles roots) grown.0 (inputs_of shown.of) entry.inputs shown.shows.inputs;
                  };
            });
      }

  pub row_start : IsRowStart drawings roots e now later d (length was) root
  row_start =
      let tiles = ap length same_tiles in
      let same_roots : d.plan.roots ≡ old.plan.roots = ap (λ (x : Draft). x.plan.roots) only in
      record {
        filling = filling_more;
        start = ap length planned.filling.entered;
        is_root = is.is_root;
        some = omega (arith, tiles, planned.some);
        filled = ap length same_entries ∙ planned.filled ∙ ap (λ (n : ℕ). n * length was) (sym tiles);
        rooted = ap (λ (x : Draft). x.rooted) only ∙ planned.rooted ∙ ap length (sym same_entries);
        given =
            subst (λ (l : List Alias). AllZip (StandsAt l) (root_aliases d.plan.tiles roots) d.plan.roots) (sym whole)
            (zip_more (aliases_of old.plan.tiles roots) grown.0 (root_aliases d.plan.tiles roots) d.plan.roots
            (subst (λ (areas : List Area). AllZip (StandsAt (aliases_of old.plan.tiles roots)) (root_aliases areas roots) d.plan.roots) (sym same_tiles)
            (subst (λ (ks : List ℕ). AllZip (StandsAt (aliases_of old.plan.tiles roots)) (root_aliases old.plan.tiles roots) ks) (sym same_roots)
            planned.given)));
        room = omega (arith, is.room, ap (λ (x : Draft). x.rows) only);
      }

  -- ---- the end of the row

  pub row_end : (new : Draft) → FillsRowTo d now later (length was) root (length d.plan.tiles) new → Planned drawings all now later new
  row_end new row =
      let state = row.fills drawings roots e row_start in
      let tiles : new.plan.tiles ≡ d.plan.tiles = row.tiles_kept in
      let n = length new.plan.tiles in
      let long : length d.plan.tiles ≡ n = ap length (sym tiles) in
      let more : length was + (length now - length was) ≡ length now =
      omega (arith, count_adds e 0 was, ap length is.is) in
      let filled : length new.plan.entries ≡ n * length now =
      state.filled ∙ ap (λ (k : ℕ). n * length was + k * (length now - length was)) long
      ∙ sym (mul-add n (length was) (length now - length was)) ∙ ap (λ (k : ℕ). n * k) more in
      let every : take (length d.plan.tiles) new.plan.tiles ≡ new.plan.tiles =
      take_all (length d.plan.tiles) new.plan.tiles (omega (arith, long)) in
      let roots_are : root_aliases new.plan.tiles roots ++ on_tiles (take (length d.plan.tiles) new.plan.tiles) e ≡ root_aliases new.plan.tiles all =
      ap (λ (areas : List Area). root_aliases new.plan.tiles roots ++ on_tiles areas e) every
      ∙ sym (root_aliases-push new.plan.tiles roots e) in
      let count : length (aliases_of new.plan.tiles all) ≡ n * length now =
      length-aliases new.plan.tiles all state.filling.frame.apart ∙ ap (λ (l : List Spread). n * length l) (sym all_entered) in
      let ends_were : d.plan.ends ≡ ends_of new.plan.tiles roots [] =
      ap (λ (x : Draft). x.plan.ends) only ∙ planned.ends
      ∙ ap (λ (areas : List Area). ends_of areas roots []) (sym same_tiles ∙ sym tiles) in
      record {
        filling = state.filling;
        fit = all_fit;
        near = all_near;
        some = omega (arith, long, ap length same_tiles, planned.some);
        filled = filled;
        rooted = state.rooted;
        given = subst (λ (xs : List Alias). AllZip (StandsAt (aliases_of new.plan.tiles all)) xs new.plan.roots) roots_are state.given;
        ends =
            state.ended long
            ∙ ap₂ (λ (ends : List ℕ) (k : ℕ). ends ++ k ∷ []) ends_were (filled ∙ sym count ∙ sym (last_end new.plan.tiles roots e))
            ∙ sym (ends_of-push new.plan.tiles roots e []);
      }
