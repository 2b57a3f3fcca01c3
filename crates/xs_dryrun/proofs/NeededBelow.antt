-- The drawings of a plan's aliases are below a number where those of the roots are
use Rattle.std.proofs.Common.{◌≡◌, ◌<◌, ℕ, zero, suc, Option, IfSome, List, [], ◌∷◌, All, Contains, get_or, sym, subst, arith}
use Rattle.std.proofs.lemmas.Option.{slice_get-get_or, slice_get_within, get_or_from_slice_get}
use Rattle.std.proofs.lemmas.List.Elements.{All-contains}
use Rattle.xs_rect.specs.Area.{Area, grown}
use Rattle.xs_pixel.specs.Channels.{Channels}
use Rattle.xs_meaning.specs.Expressions.{Expr, Clear, Leaf, Tinted, Card, Pair, Blur}
use Rattle.xs_plan.specs.declared.job.Job.{Job}
use Rattle.xs_plan.specs.Record.{drawing_of}
use Rattle.xs_plan.specs.Draft.{Draft}
use Rattle.xs_demand.specs.Aliases.{Alias, alias, inputs_on, aliases_of, Leads, RootReaches}
use Rattle.xs_demand.specs.Blocks.{Spread}
use Rattle.xs_demand.specs.Fit.{IsFit}
use Rattle.xs_demand.specs.Shown.{ShowsJob, drawing_in, tints_shown}
use Rattle.xs_dryrun.specs.declared.rows.Rows.{Rows}
use Rattle.xs_dryrun.specs.Planned.{Planned}

own_below : (n : ℕ) (e : Expr) → IsFit n e → IfSome (drawing_in e) (λ d. d < n)
own_below n Clear fit = tt
own_below n (Leaf d at) fit = fit.0
own_below n (Tinted d at tint) fit = fit.0
own_below n (Card pixel) fit = tt
own_below n (Pair op a b) fit = tt
own_below n (Blur radius a) fit = tt

-- ---- what a fit expression reaches is fit

no_input : {A : Type 0} (input : Alias) → Contains [] input → A
no_input input has = absurd (omega (arith, has.1))

one_input : (n : ℕ) (x input : Alias) (k : ℕ) → k < 1 → get_or (x ∷ []) k input ≡ input → IsFit n x.expr → IsFit n input.expr
one_input n x input zero below is fit = subst (λ (y : Alias). IsFit n y.expr) is fit
one_input n x input (suc k) below is fit = absurd (omega arith)

two_inputs :
    (n : ℕ) (x y input : Alias) (k : ℕ) → k < 2 → get_or (x ∷ y ∷ []) k input ≡ input → IsFit n x.expr → IsFit n y.expr → IsFit n input.expr
two_inputs n x y input zero below is first second = subst (λ (z : Alias). IsFit n z.expr) is first
two_inputs n x y input (suc zero) below is first second = subst (λ (z : Alias). IsFit n z.expr) is second
two_inputs n x y input (suc (suc k)) below is first second = absurd (omega arith)

input_fit : (n : ℕ) (e : Expr) (rect : Area) (input : Alias) → IsFit n e → Contains (inputs_on e rect) input → IsFit n input.expr
input_fit n Clear rect input fit has = no_input input has
input_fit n (Leaf d at) rect input fit has = no_input input has
input_fit n (Tinted d at tint) rect input fit has = no_input input has
input_fit n (Card pixel) rect input fit has = no_input input has
input_fit n (Pair op a b) rect input fit has = two_inputs n (alias a rect) (alias b rect) input has.0 has.1 has.2 fit.2 fit.3
input_fit n (Blur radius a) rect input fit has = one_input n (alias a (grown rect radius)) input has.0 has.1 has.2 fit.3

led_fit : (n steps : ℕ) (x y : Alias) → IsFit n x.expr → Leads steps x y → IsFit n y.expr
unfolding Leads
led_fit n zero x y fit way = subst (λ (z : Alias). IsFit n z.expr) way fit
led_fit n (suc steps) x y fit way = led_fit n steps way.0 y (input_fit n x.expr x.rect way.0 fit way.1) way.2

-- ---- the drawings of a plan

module _ (reached : (tiles : List Area) (roots : List Expr) (y : Alias) → Contains (aliases_of tiles roots) y
    → (e : Expr) × Contains roots e × RootReaches tiles e y)
    (asked : (tints : List (List Channels)) (expr : Expr) (job : Job) → ShowsJob tints expr job → drawing_of job ≡ drawing_in expr) where
  pub needed_below :
      (drawings : ℕ) (roots : List Expr) (l : List Spread) (rows : Rows) (d : Draft) → Planned drawings roots l rows d
      → All (λ e. IfSome (drawing_of e.job) (λ x. x < drawings)) d.plan.entries
  needed_below drawings roots l rows d planned k past here =
      let e = get_or d.plan.entries k past in
      let all = aliases_of d.plan.tiles roots in
      let shown = planned.filling.entries k e (slice_get-get_or d.plan.entries k past here) in
      let stands : Contains all shown.of =
      (k, slice_get_within all k shown.of shown.stands, get_or_from_slice_get all k shown.of shown.of shown.stands) in
      let root = reached d.plan.tiles roots shown.of stands in
      let fit = led_fit drawings root.2.reaches.steps (alias root.0 root.2.tile) shown.of
      (All-contains (IsFit drawings) roots root.0 planned.fit root.1) root.2.reaches.way in
      subst (λ (o : Option ℕ). IfSome o (λ x. x < drawings)) (sym (asked (tints_shown d.plan) shown.of.expr e.job shown.shows.job))
      (own_below drawings shown.of.expr fit)
