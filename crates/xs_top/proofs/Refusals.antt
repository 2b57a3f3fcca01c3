-- The first drawing that is refused, or with which there are too many bytes, is told, and no other.
use Rattle.std.proofs.Common.{◌≡◌, ℕ, ◌<◌, inl, inr, ◌↔◌, List, [], ◌∷◌, ◌++◌, map, None, refl, sym, ap, ◌∙◌, subst}
use Rattle.xs_check.specs.Passes.{first_fault}
use Rattle.xs_dryrun.specs.declared.limits.What.TheVariants as what
use Rattle.xs_levels.specs.Films.{Files}
use Rattle.xs_rawfile.specs.declared.fault.LevelCode.{LevelCode}
use Rattle.xs_scene.specs.Records.{SceneRecord}
use Rattle.xs_top.specs.declared.limits.TheConstants.{MOST_SECTION_BYTES}
use Rattle.xs_top.specs.declared.status.Status.{Status}
use Rattle.xs_top.specs.declared.status.Status.TheVariants as answers
use Rattle.xs_top.specs.Demand.{limit_in}
use Rattle.xs_top.specs.Drawings.{file_of}
use Rattle.xs_top.specs.Finished.{Says, IsAccepted}
use Rattle.xs_top.specs.Loads.{loads, StopsAt}
use Rattle.xs_top.specs.Outcome.{rendering, rendering_scene}
use Rattle.xs_top.specs.Refused.{IsRefused}
use Rattle.xs_top.specs.Trace.{asks}
use Rattle.xs_top.proofs.Finishing.{render_is, scene_walked, rows_events, stopped_at}
use Rattle.xs_top.proofs.Walking.{Load, numbers, Cause, Stop, Walked, refused_once, one_code, no_cause}

module _ (files : Files) (name base : List ℕ) (s : SceneRecord) (from to : ℕ) (says : Says files name s) (good : first_fault s ≡ None)
    (none : limit_in s from to ≡ None) where
  abbrev answer : Status
  answer = (rendering files name from to base).status

  abbrev Walk : Type 0
  Walk = Walked files s (loads files s from to) (rows_events files s base from to) (rendering_scene files from to base s) (record { status = answers.Ok; work = [] })

  -- where the answer is not Ok, rows stopped, and what was asked for is known
  stopped : Walk → (answer ≡ answers.Ok → ⊥)
      → (stop : Stop files s (loads files s from to) (rendering_scene files from to base s)) × (answer ≡ stop.status)
      × (asks (rendering files name from to base).work ≡ name ∷ map (file_of s) (numbers stop.before ++ stop.load.0 ∷ []))
  stopped (inl (all, same)) other =
      absurd (other (ap (λ o. o.status) (render_is files name base s from to says good) ∙ ap (λ o. o.status) same))
  stopped (inr stop) other = (
    stop,
    ap (λ o. o.status) (render_is files name base s from to says good) ∙ stop.ends,
    ap (λ o. asks o.work) (render_is files name base s from to says good) ∙ ap (λ l. name ∷ l) stop.asked,
  )

  walk : (answer ≡ answers.Ok → ⊥)
      → (stop : Stop files s (loads files s from to) (rendering_scene files from to base s)) × (answer ≡ stop.status)
      × (asks (rendering files name from to base).work ≡ name ∷ map (file_of s) (numbers stop.before ++ stop.load.0 ∷ []))
  walk other = stopped (scene_walked files s base from to none) other

  -- ---- a drawing that is refused

  cause_refused : (load : Load) (d : ℕ) (code : LevelCode) (status : Status) → status ≡ answers.Level d code → Cause files s load status
      → (load.0 ≡ d) × IsRefused files s d code
  cause_refused load d code status told (inl (other, is, refused)) =
      let same : answers.Level load.0 other ≡ answers.Level d code = sym is ∙ told in
      let drawing : load.0 ≡ d = cc in
      let same_code : other ≡ code = cc in
      (drawing, subst (λ (n : ℕ). IsRefused files s n code) drawing (subst (IsRefused files s load.0) same_code refused))
  cause_refused load d code status told (inr (is, accepted, past)) =
      let same : answers.Limit what.SectionBytes MOST_SECTION_BYTES ≡ answers.Level d code = sym is ∙ told in absurd cc

  stops_at : (d : ℕ) (stop : Stop files s (loads files s from to) (rendering_scene files from to base s)) → stop.load.0 ≡ d
      → StopsAt files s from to (d, stop.load.1)
  stops_at d stop same = record {
    before = stop.before;
    behind = stop.behind;
    place = stop.place ∙ ap (λ (n : ℕ). stop.before ++ (n, stop.load.1) ∷ stop.behind) same;
    loaded = stop.loaded;
  }

  module _ (d : ℕ) (code : LevelCode) where
    told_stops : answer ≡ answers.Level d code → (bytes : ℕ) × StopsAt files s from to (d, bytes) × IsRefused files s d code
    told_stops told =
        let walked = walk (λ ends. let same : answers.Ok ≡ answers.Level d code = sym ends ∙ told in absurd cc) in
        let stop = walked.0 in
        let found = cause_refused stop.load d code stop.status (sym walked.1 ∙ told) stop.cause in
        (stop.load.1, stops_at d stop found.0, found.1)

    refused_is : (status : Status) (bytes : ℕ) → IsRefused files s d code → Cause files s (d, bytes) status → status ≡ answers.Level d code
    refused_is status bytes refused (inl (other, is, also)) = is ∙ ap (answers.Level d) (one_code files s d other code also refused)
    refused_is status bytes refused (inr (is, accepted, past)) = absurd (refused_once files s d code refused accepted)

    stops_told : (bytes : ℕ) × StopsAt files s from to (d, bytes) × IsRefused files s d code → answer ≡ answers.Level d code
    stops_told (bytes, stops, refused) =
        let found = stopped_at files name base s from to says good none (d, bytes) stops (λ ok. refused_once files s d code refused ok.accepted) in
        found.2 ∙ refused_is found.0 bytes refused found.1

    pub refusal_told : (answer ≡ answers.Level d code) ↔ ((bytes : ℕ) × StopsAt files s from to (d, bytes) × IsRefused files s d code)
    refusal_told = (told_stops, stops_told)

    pub refusal_asked : answer ≡ answers.Level d code
        → (bytes : ℕ) × (stops : StopsAt files s from to (d, bytes))
        × (asks (rendering files name from to base).work ≡ name ∷ map (file_of s) (map (λ load. load.0) stops.before ++ d ∷ []))
    unfolding stops_at
    refusal_asked told =
        let walked = walk (λ ends. let same : answers.Ok ≡ answers.Level d code = sym ends ∙ told in absurd cc) in
        let stop = walked.0 in
        let found = cause_refused stop.load d code stop.status (sym walked.1 ∙ told) stop.cause in (
          stop.load.1,
          stops_at d stop found.0,
          walked.2 ∙ ap (λ n. name ∷ map (file_of s) (numbers stop.before ++ n ∷ [])) found.0,
        )

  -- ---- a drawing with which there are too many bytes

  abbrev TooMany : ℕ → Type 0
  TooMany limit =
      (limit ≡ MOST_SECTION_BYTES)
      × ((load : ℕ × ℕ) × StopsAt files s from to load × IsAccepted files s load.0 × (MOST_SECTION_BYTES < load.1))

  module _ (limit : ℕ) where
    cause_many : (stop : Stop files s (loads files s from to) (rendering_scene files from to base s)) → stop.status ≡ answers.Limit what.SectionBytes limit
        → Cause files s stop.load stop.status → TooMany limit
    cause_many stop told (inl (other, is, refused)) =
        let same : answers.Level stop.load.0 other ≡ answers.Limit what.SectionBytes limit = sym is ∙ told in absurd cc
    cause_many stop told (inr (is, accepted, past)) =
        let same : answers.Limit what.SectionBytes MOST_SECTION_BYTES ≡ answers.Limit what.SectionBytes limit = sym is ∙ told in
        let most : limit ≡ MOST_SECTION_BYTES = cc in
        (most, (stop.load, stops_at stop.load.0 stop refl, accepted, past))

    many_told : answer ≡ answers.Limit what.SectionBytes limit → TooMany limit
    many_told told =
        let walked = walk (λ ends. let same : answers.Ok ≡ answers.Limit what.SectionBytes limit = sym ends ∙ told in absurd cc) in
        cause_many walked.0 (sym walked.1 ∙ told) walked.0.cause

    many_is : (status : Status) (load : Load) → IsAccepted files s load.0 → Cause files s load status
        → status ≡ answers.Limit what.SectionBytes MOST_SECTION_BYTES
    many_is status load accepted (inl (other, is, refused)) = absurd (refused_once files s load.0 other refused accepted)
    many_is status load accepted (inr (is, same, past)) = is

    told_many : TooMany limit → answer ≡ answers.Limit what.SectionBytes limit
    told_many (most, (load, stops, accepted, past)) =
        let found = stopped_at files name base s from to says good none load stops
        (λ ok. no_cause files s load (answers.Limit what.SectionBytes MOST_SECTION_BYTES) ok (inr (refl, accepted, past))) in
        found.2 ∙ (many_is found.0 load accepted found.1 ∙ ap (answers.Limit what.SectionBytes) (sym most))

    pub limit_told : (answer ≡ answers.Limit what.SectionBytes limit) ↔ TooMany limit
    limit_told = (many_told, told_many)
