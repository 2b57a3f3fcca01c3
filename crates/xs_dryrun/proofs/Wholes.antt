-- The start and the end of a plan
use Rattle.std.proofs.Common.{◌≡◌, ◌≤◌, ◌*◌, ℕ, suc, Some, List, [], ◌∷◌, length, slice_get, refl, sym, ap, ◌∙◌, subst, Result, Ok, Err, IfOk, arith}
use Rattle.std.specs.List.{AllZip}
use Rattle.xs_rect.specs.Area.{Area}
use Rattle.xs_meaning.specs.Expressions.{Expr, reach_of}
use Rattle.xs_plan.specs.declared.limits.TheConstants.{FARTHEST_REACH}
use Rattle.xs_plan.specs.Record.{Entry, PlanRecord}
use Rattle.xs_plan.specs.Draft.{Draft, HasRoots, empty_draft, finished}
use Rattle.xs_demand.specs.Aliases.{Alias, aliases_of}
use Rattle.xs_demand.specs.Blocks.{Spread}
use Rattle.xs_demand.specs.Fit.{IsFit}
use Rattle.xs_demand.specs.Shown.{StandsAt, ShowsAlias, ShowsRoots, root_aliases, tints_shown}
use Rattle.xs_demand.proofs.BlockNumbers.{length-aliases}
use Rattle.xs_demand.proofs.TintsInBlocks.{tints_of-entered}
use Rattle.xs_entered.specs.Entered.{tints_entered}
use Rattle.xs_dryrun.specs.declared.rows.Rows.{Rows}
use Rattle.xs_dryrun.specs.Numbers.{AreNumbers}
use Rattle.xs_dryrun.specs.Filling.{IsFrame}
use Rattle.xs_dryrun.specs.Planned.{Planned}
use Rattle.xs_dryrun.proofs.NextEntry.{some_same, all_nil}
use Rattle.xs_dryrun.proofs.RowTiles.{zip_length, length-root_aliases}

none_many : (tiles : List Area) → length (aliases_of tiles []) ≡ 0
unfolding aliases_of
none_many tiles = refl

pub planned_nothing :
    (tiles : List Area) (many drawings : ℕ) (rows : Rows) → IsFrame tiles → 1 ≤ length tiles
    → AreNumbers (length tiles) [] rows.firsts.items rows.strides.items → Planned drawings [] [] rows (empty_draft tiles many)
planned_nothing tiles many drawings rows frame some numbers =
    record {
      filling =
          record {
            frame = frame;
            entered = refl;
            spreads = λ j here. absurd (omega arith);
            numbers = numbers;
            few = omega (arith, none_many tiles);
            tints = refl;
            entries = λ k e at. cc;
          };
      fit = all_nil (IsFit drawings);
      near = all_nil (λ e. reach_of e ≤ FARTHEST_REACH);
      some = some;
      filled = omega arith;
      rooted = refl;
      given = tt;
      ends = refl;
    }

zip_by_places :
    (R : Alias → Entry → Type 0) (xs : List Alias) (es : List Entry) → length es ≡ length xs
    → ((k : ℕ) (x : Alias) (e : Entry) → slice_get xs k ≡ Some x → slice_get es k ≡ Some e → R x e) → AllZip R xs es
zip_by_places R [] [] long each = tt
zip_by_places R [] (e ∷ es) long each = absurd (omega (arith, long))
zip_by_places R (x ∷ xs) [] long each = absurd (omega (arith, long))
zip_by_places R (x ∷ xs) (e ∷ es) long each = (
  each 0 x e refl refl,
  zip_by_places R xs es (omega (arith, long)) (λ k y f here there. each (suc k) y f here there),
)

module _
    (drawings : ℕ) (roots : List Expr) (l : List Spread) (rows : Rows) (d : Draft) (planned : Planned drawings roots l rows d) where
  pub has_roots : length roots ≡ d.rows → HasRoots d
  has_roots all =
      zip_length (StandsAt (aliases_of d.plan.tiles roots)) (root_aliases d.plan.tiles roots) d.plan.roots planned.given
      ∙ length-root_aliases d.plan.tiles roots ∙ ap (λ (n : ℕ). n * length d.plan.tiles) all

  pub shows_roots : (p : PlanRecord) (n : ℕ) → p ≡ finished d n → ShowsRoots d.plan.tiles roots p
  shows_roots p n is =
      let all = aliases_of d.plan.tiles roots in
      let f = planned.filling in
      let count : length d.plan.entries ≡ length all =
      planned.filled ∙ ap (λ (m : List Spread). length d.plan.tiles * length m) f.entered
      ∙ sym (length-aliases d.plan.tiles roots f.frame.apart) in
      subst (ShowsRoots d.plan.tiles roots) (sym is)
      (record {
        frame = refl;
        entries =
            zip_by_places (ShowsAlias all (tints_shown d.plan)) all d.plan.entries count
            (λ k x e here there.
            let shown = f.entries k e there in
            let same : shown.of ≡ x = some_same shown.of x (sym shown.stands ∙ here) in
            subst (λ (y : Alias). ShowsAlias all (tints_shown d.plan) y e) same shown.shows);
        rows = planned.given;
        ends = planned.ends;
        tints =
            f.tints ∙ ap tints_entered f.entered
            ∙ sym (tints_of-entered d.plan.tiles roots (omega (arith, planned.some)) f.frame.apart);
      })

pub ok_map : {A E : Type 0} (r : Result A E) (P Q : A → Type 0) → ((x : A) → P x → Q x) → IfOk r P → IfOk r Q
ok_map (Ok x) P Q f ok = f x ok
ok_map (Err x) P Q f ok = tt
