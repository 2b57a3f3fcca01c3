-- The next entry of a plan
use Rattle.std.proofs.Common.{◌≡◌, ◌<◌, ◌≤◌, ◌+◌, ℕ, false, Option, Some, None, List, [], ◌∷◌, All, Contains, length, map, slice_get, refl, sym, ap, ◌∙◌, subst, inl, inr, arith}
use Rattle.std.specs.List.{AllZip}
use Rattle.std.proofs.lemmas.List.{length-map}
use Rattle.std.proofs.lemmas.List.Elements.{All-cons}
use Rattle.std.proofs.lemmas.Option.{slice_get-get_or, slice_get_within}
use Rattle.std.proofs.lemmas.Slice.Zip.{AllZip-long}
use Rattle.xs_pixel.specs.Channels.{Channels}
use Rattle.xs_rect.specs.Area.{Area, grown}
use Rattle.xs_meaning.specs.Expressions.{Expr, Clear, Leaf, Tinted, Card, Pair, Blur, is_clear}
use Rattle.xs_tint.specs.Tints.{tint_of}
use Rattle.xs_plan.specs.declared.job.Job.{Job}
use Rattle.xs_plan.specs.Record.{Entry, no_entry, entry_at, inputs_from, input_rect, is_clear_job, ports_of}
use Rattle.xs_plan.specs.Valid.{IsEntry, IsInput, IsJob}
use Rattle.xs_plan.specs.Draft.{Draft, with_entry}
use Rattle.xs_demand.specs.Aliases.{Alias, inputs_of, aliases_of}
use Rattle.xs_demand.specs.Blocks.{Spread, spread, alias_on, enter_rows, inputs_under, number_on}
use Rattle.xs_demand.specs.Fit.{IsFit}
use Rattle.xs_demand.specs.Shown.{StandsAt, ShowsAlias, ShowsJob, tints_shown}
use Rattle.xs_demand.proofs.BlockNumbers.{numbers_in_blocks, inputs_on_tile}
use Rattle.xs_demand.proofs.GrownTiles.{grown_twice}
use Rattle.xs_demand.proofs.PlaceLemmas.{same_place, contained, Contains-map, Contains-head, Contains-tail, head_or_tail, only, none_in_nil, before_or_last}
use Rattle.xs_demand.proofs.ReachLemmas.{aliases_founded, aliases_apart}
use Rattle.xs_entered.specs.Entered.{spread_at, tints_entered}
use Rattle.xs_dryrun.specs.declared.rows.Rows.{Rows}
use Rattle.xs_dryrun.specs.Filling.{number_at, inputs_at, IsInputOn, MayTell, Shows, Filling, IsNext}

-- ---- lists

pub some_same : {A : Type 0} (x y : A) → Some x ≡ Some y → x ≡ y
some_same x y same = cc

pub all_nil : {A : Type 0} (P : A → Type 0) → All P []
all_nil P = λ k d within. absurd (omega arith)

-- what stands at a port
abbrev PortOf : (Spread → ℕ → Type 0) → List Spread → ℕ → Option ℕ → Type 0
PortOf R us port None = length us ≤ port
PortOf R us port (Some k) = (u : Spread) × (slice_get us port ≡ Some u) × R u k

zip_ports :
    (R : Spread → ℕ → Type 0) (us : List Spread) (a b : Option ℕ) → length us ≤ 2 → PortOf R us 0 a → PortOf R us 1 b
    → AllZip R us (inputs_from a b)
zip_ports R [] None b few first second = tt
zip_ports R [] (Some k) b few first second = absurd (omega (arith, slice_get_within [] 0 first.0 first.1))
zip_ports R (u ∷ []) None b few first second = absurd (omega arith)
zip_ports R (u ∷ []) (Some k) None few first second = (subst (λ v. R v k) (sym (some_same u first.0 first.1)) first.2, tt)
zip_ports R (u ∷ []) (Some k) (Some m) few first second = absurd (omega (arith, slice_get_within (u ∷ []) 1 second.0 second.1))
zip_ports R (u ∷ v ∷ []) None b few first second = absurd (omega arith)
zip_ports R (u ∷ v ∷ []) (Some k) None few first second = absurd (omega arith)
zip_ports R (u ∷ v ∷ []) (Some k) (Some m) few first second = (
  subst (λ w. R w k) (sym (some_same u first.0 first.1)) first.2,
  (subst (λ w. R w m) (sym (some_same v second.0 second.1)) second.2, tt),
)
zip_ports R (u ∷ v ∷ w ∷ us) a b few first second = absurd (omega arith)

none_after :
    (R : Spread → ℕ → Type 0) (us : List Spread) (a b : Option ℕ) → PortOf R us 0 a → PortOf R us 1 b → a ≡ None → b ≡ None
none_after R us None None first second none = refl
none_after R us None (Some m) first second none = absurd (omega (arith, slice_get_within us 1 second.0 second.1))
none_after R us (Some k) b first second none = cc

zip_map :
    (R : Spread → ℕ → Type 0) (S : Alias → ℕ → Type 0) (f : Spread → Alias) (us : List Spread) (ks : List ℕ) → AllZip R us ks
    → ((u : Spread) (k : ℕ) → R u k → S (f u) k) → AllZip S (map f us) ks
zip_map R S f [] [] zip each = tt
zip_map R S f [] (k ∷ ks) zip each = absurd zip
zip_map R S f (u ∷ us) [] zip each = absurd zip
zip_map R S f (u ∷ us) (k ∷ ks) zip each = (each u k zip.0, zip_map R S f us ks zip.1 each)

all_zip :
    (R : Spread → ℕ → Type 0) (P : ℕ → Type 0) (us : List Spread) (ks : List ℕ) → AllZip R us ks
    → ((u : Spread) (k : ℕ) → Contains us u → R u k → P k) → All P ks
all_zip R P [] [] zip each = all_nil P
all_zip R P [] (k ∷ ks) zip each = absurd zip
all_zip R P (u ∷ us) [] zip each = absurd zip
all_zip R P (u ∷ us) (k ∷ ks) zip each =
    All-cons P k ks (each u k (Contains-head u us) zip.0)
    (all_zip R P us ks zip.1 (λ v m among r. each v m (Contains-tail u us v among) r))

-- ---- jobs

few_inputs : (e : Expr) (g : ℕ) → length (inputs_under e g) ≤ 2
few_inputs Clear g = omega arith
few_inputs (Leaf d at) g = omega arith
few_inputs (Tinted d at tint) g = omega arith
few_inputs (Card pixel) g = omega arith
few_inputs (Pair op a b) g = omega arith
few_inputs (Blur n a) g = omega arith

ports_are :
    (tints : List (List Channels)) (e : Expr) (g : ℕ) (j : Job) → ShowsJob tints e j → length (inputs_under e g) ≡ ports_of j
ports_are tints Clear g j is = ap ports_of (sym is)
ports_are tints (Leaf d at) g j is = ap ports_of (sym is)
ports_are tints (Tinted d at tint) g j is = ap ports_of (sym is.1)
ports_are tints (Card pixel) g j is = ap ports_of (sym is)
ports_are tints (Pair op a b) g j is = ap ports_of (sym is)
ports_are tints (Blur n a) g j is = ap ports_of (sym is)

unclear_job : (tints : List (List Channels)) (e : Expr) (j : Job) → ShowsJob tints e j → is_clear e ≡ false → is_clear_job j ≡ false
unclear_job tints Clear j is unclear = cc
unclear_job tints (Leaf d at) j is unclear = ap is_clear_job is
unclear_job tints (Tinted d at tint) j is unclear = ap is_clear_job is.1
unclear_job tints (Card pixel) j is unclear = ap is_clear_job is
unclear_job tints (Pair op a b) j is unclear = ap is_clear_job is
unclear_job tints (Blur n a) j is unclear = ap is_clear_job is

is_job :
    (tints : List (List Channels)) (drawings : ℕ) (e : Expr) (j : Job) → ShowsJob tints e j → IsFit drawings e → IsJob (length tints) j
is_job tints drawings Clear j is fit = subst (IsJob (length tints)) (sym is) tt
is_job tints drawings (Leaf d at) j is fit = subst (IsJob (length tints)) (sym is) (fit.1, fit.2)
is_job tints drawings (Tinted d at tint) j is fit =
    subst (IsJob (length tints)) (sym is.1) (fit.1, fit.2, slice_get_within tints is.0 tint is.2)
is_job tints drawings (Card pixel) j is fit = subst (IsJob (length tints)) (sym is) tt
is_job tints drawings (Pair op a b) j is fit = subst (IsJob (length tints)) (sym is) tt
is_job tints drawings (Blur n a) j is fit = subst (IsJob (length tints)) (sym is) (fit.0, fit.1)

-- an input of an expression that is fit
record InputFits (area : Area) (g : ℕ) (j : Job) (u : Spread) : Type 0 where
  unclear : is_clear u.expr ≡ false
  rect : grown area u.growth ≡ input_rect j (grown area g)

input_fits :
    (tints : List (List Channels)) (drawings : ℕ) (area : Area) (e : Expr) (g : ℕ) (j : Job) → ShowsJob tints e j → IsFit drawings e
    → (u : Spread) → Contains (inputs_under e g) u → InputFits area g j u
input_fits tints drawings area Clear g j is fit u among = none_in_nil u among
input_fits tints drawings area (Leaf d at) g j is fit u among = none_in_nil u among
input_fits tints drawings area (Tinted d at tint) g j is fit u among = none_in_nil u among
input_fits tints drawings area (Card pixel) g j is fit u among = none_in_nil u among
input_fits tints drawings area (Pair op a b) g j is fit u among =
    let same : grown area g ≡ input_rect j (grown area g) = ap (λ (k : Job). input_rect k (grown area g)) (sym is) in
    elim (head_or_tail (spread a g) (spread b g ∷ []) u among) [
      | inl first ↦ subst (InputFits area g j) first (record { unclear = fit.0; rect = same })
      | inr last ↦ subst (InputFits area g j) (only (spread b g) u last) (record { unclear = fit.1; rect = same })
    ]
input_fits tints drawings area (Blur n a) g j is fit u among =
    let same : grown area (g + n) ≡ input_rect j (grown area g) =
    sym (grown_twice area g n) ∙ ap (λ (k : Job). input_rect k (grown area g)) (sym is) in
    subst (InputFits area g j) (only (spread a (g + n)) u among) (record { unclear = fit.2; rect = same })

-- ---- the next entry

-- what stands for an input
record Stands (l : List Alias) (tints : List (List Channels)) (entries : List Entry) (area : Area) (u : Spread) (k : ℕ) : Type 0 where
  below : k < length entries
  at : StandsAt l (alias_on area u) k
  shows : ShowsAlias l tints (alias_on area u) (entry_at entries k)

abbrev entry : Job → Area → Option ℕ → Option ℕ → Entry
entry j rect a b = record { job = j; rect = rect; inputs = inputs_from a b }

pub record Valid (l : List Alias) (d : Draft) (x : Alias) (j : Job) (rect : Area) (a b : Option ℕ) : Type 0 where
  pub none : a ≡ None → b ≡ None
  pub is : IsEntry (length d.plan.tints) d.plan.entries (record { job = j; rect = rect; inputs = inputs_from a b })
  pub at : StandsAt l x (length d.plan.entries)
  pub shows : ShowsAlias l (tints_shown d.plan) x (record { job = j; rect = rect; inputs = inputs_from a b })

module _
    (drawings : ℕ) (roots : List Expr) (l : List Spread) (rows : Rows) (d : Draft) (t : ℕ) (area : Area)
    (filling : Filling drawings roots l rows d) (on : slice_get d.plan.tiles t ≡ Some area) where
  pub number : (n : ℕ) → n < length l → number_at rows n t ≡ number_on (length d.plan.tiles) roots [] n t
  number n here = filling.numbers.number n t (omega (arith, filling.numbers.firsts_many, ap length filling.entered))

  -- an expression stands at its number
  pub stands : (n : ℕ) → n < length l → StandsAt (aliases_of d.plan.tiles roots) (alias_on area (spread_at l n)) (number_at rows n t)
  stands n here =
      let there : slice_get (enter_rows roots []) n ≡ Some (spread_at l n) =
      ap (λ (m : List Spread). slice_get m n) (sym filling.entered) ∙ slice_get-get_or l n (spread Clear 0) here in
      ap (slice_get (aliases_of d.plan.tiles roots)) (number n here)
      ∙ numbers_in_blocks d.plan.tiles roots n t area (spread_at l n) filling.frame.apart on there

  pub may_tell : MayTell rows (length l) t
  may_tell =
      let many = ap length filling.entered in
      record {
        firsts_many = filling.numbers.firsts_many ∙ sym many;
        strides_many = filling.numbers.strides_many ∙ sym many;
        fits = λ n here.
            let under =
            slice_get_within (aliases_of d.plan.tiles roots) (number_at rows n t) (alias_on area (spread_at l n)) (stands n here) in
            omega (arith, under, filling.few);
      }

module _
    (drawings : ℕ) (roots : List Expr) (l : List Spread) (rows : Rows) (d : Draft) (j t : ℕ) (area : Area)
    (is : IsNext drawings roots l rows d j t area) where
  abbrev all : List Alias
  all = aliases_of d.plan.tiles roots

  abbrev x : Spread
  x = spread_at l j

  at : (n : ℕ) → n < length l → StandsAt all (alias_on area (spread_at l n)) (number_at rows n t)
  at n here = stands drawings roots l rows d t area is.filling is.on n here

  own : StandsAt all (alias_on area x) (length d.plan.entries)
  own = ap (slice_get all) (is.next ∙ sym (number drawings roots l rows d t area is.filling is.on j is.there)) ∙ at j is.there

  below : (n : ℕ) → n < length l → Contains (inputs_at l j) (spread_at l n) → number_at rows n t < length d.plan.entries
  below n here among =
      let input = alias_on area (spread_at l n) in
      let read : Contains (inputs_of (alias_on area x)) input =
      subst (λ (m : List Alias). Contains m input) (sym (inputs_on_tile area x)) (Contains-map (alias_on area) (inputs_at l j) (spread_at l n) among) in
      let before = aliases_founded d.plan.tiles roots (alias_on area x) (length d.plan.entries) own input read in
      let same : before.0 ≡ number_at rows n t =
      same_place all (aliases_apart d.plan.tiles roots) before.0 (number_at rows n t) input before.2 (at n here) in
      omega (arith, same, before.1)

  input : (n k : ℕ) → n < length l → Contains (inputs_at l j) (spread_at l n) → k ≡ number_at rows n t
      → Stands all (tints_shown d.plan) d.plan.entries area (spread_at l n) k
  input n k here among is_at =
      let less = below n here among in
      let there : k < length d.plan.entries = omega (arith, is_at, less) in
      let shown = is.filling.entries k (entry_at d.plan.entries k) (slice_get-get_or d.plan.entries k no_entry there) in
      let stood : StandsAt all (alias_on area (spread_at l n)) k = ap (slice_get all) is_at ∙ at n here in
      let same : shown.of ≡ alias_on area (spread_at l n) = some_same shown.of (alias_on area (spread_at l n)) (sym shown.stands ∙ stood) in
      record {
        below = there;
        at = stood;
        shows = subst (λ (y : Alias). ShowsAlias all (tints_shown d.plan) y (entry_at d.plan.entries k)) same shown.shows;
      }

  port : (p : ℕ) (r : Option ℕ) → IsInputOn l rows j t p r → PortOf (Stands all (tints_shown d.plan) d.plan.entries area) (inputs_at l j) p r
  port p None none = none
  port p (Some k) some =
      (spread_at l some.0, some.2, input some.0 k (omega (arith, some.1, is.there)) (contained (inputs_at l j) p (spread_at l some.0) some.2) some.3)

  pub valid :
      (job : Job) (a b : Option ℕ) → ShowsJob (tints_entered l) x.expr job → IsInputOn l rows j t 0 a → IsInputOn l rows j t 1 b
      → Valid all d (alias_on area x) job (grown area x.growth) a b
  valid job a b shows first second =
      let R = Stands all (tints_shown d.plan) d.plan.entries area in
      let rect = grown area x.growth in
      let spread_fits = is.filling.spreads j is.there in
      let zip = zip_ports R (inputs_at l j) a b (few_inputs x.expr x.growth) (port 0 a first) (port 1 b second) in
      let tinted : ShowsJob (tints_shown d.plan) x.expr job =
      subst (λ (m : List (List Channels)). ShowsJob m x.expr job) (sym is.filling.tints) shows in
      let near = is.filling.frame.near t x.growth area is.on (omega (arith, spread_fits.near)) in
      record {
        none = none_after R (inputs_at l j) a b (port 0 a first) (port 1 b second);
        is =
            record {
              ports = AllZip-long R (inputs_at l j) (inputs_from a b) zip ∙ ports_are (tints_entered l) x.expr x.growth job shows;
              inputs =
                  all_zip R (IsInput d.plan.entries (entry job rect a b)) (inputs_at l j) (inputs_from a b) zip
                  (λ u k among r.
                  let fits = input_fits (tints_entered l) drawings area x.expr x.growth job shows spread_fits.fit u among in
                  record {
                    there = r.below;
                    rect = r.shows.rect ∙ fits.rect;
                    unclear = unclear_job (tints_shown d.plan) u.expr (entry_at d.plan.entries k).job r.shows.job fits.unclear;
                  });
              job =
                  subst (λ (n : ℕ). IsJob n job) (length-map d.plan.tints tint_of)
                  (is_job (tints_shown d.plan) drawings x.expr job tinted spread_fits.fit);
              valid = near.0;
              sides = near.1;
            };
        at = own;
        shows =
            record {
              job = tinted;
              rect = refl;
              inputs =
                  subst (λ (m : List Alias). AllZip (StandsAt all) m (inputs_from a b)) (sym (inputs_on_tile area x))
                  (zip_map R (StandsAt all) (alias_on area) (inputs_at l j) (inputs_from a b) zip (λ u k r. r.at));
            };
      }

  -- the plan with that entry
  pub filled : (e : Entry) → ShowsAlias all (tints_shown d.plan) (alias_on area x) e → Filling drawings roots l rows (with_entry d e)
  filled e shows =
      record {
        frame = is.filling.frame;
        entered = is.filling.entered;
        spreads = is.filling.spreads;
        numbers = is.filling.numbers;
        few = is.filling.few;
        tints = is.filling.tints;
        entries =
            λ k f at. elim (before_or_last d.plan.entries e k f at) [
              | inl old ↦ is.filling.entries k f old
              | inr last ↦
                  subst (λ (n : ℕ). Shows all (tints_shown d.plan) n f) (sym last.0)
                  (subst (Shows all (tints_shown d.plan) (length d.plan.entries)) last.1
                  (record { of = alias_on area x; stands = own; shows = shows }))
            ];
      }

  pub has_room : length d.plan.entries < 1073741824
  has_room = omega (arith, slice_get_within all (length d.plan.entries) (alias_on area x) own, is.filling.few)
