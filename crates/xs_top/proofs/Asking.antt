-- What stands on the shelf where a file is asked for.
use Rattle.std.proofs.Common.{◌≡◌, ℕ, zero, suc, ◌+◌, ◌-◌, ◌<◌, ◌≤◌, ◌==◌, ◌||◌, true, false, List, [], ◌∷◌, ◌++◌, map, nat_le, if◌then◌else◌, Option, Some, None, refl, sym, ap, ◌∙◌, subst, append_assoc, arith}
use Rattle.std.specs.List.{range_with_len}
use Rattle.std.proofs.lemmas.List.{map-append, append-nil}
use Rattle.xs_outside.specs.declared.object.Object.{Object}
use Rattle.xs_fault.specs.declared.fault.SceneFault.{SceneFault}
use Rattle.xs_rawfile.specs.declared.fault.LevelCode.{LevelCode}
use Rattle.xs_pixel.specs.Picture.{Pictures}
use Rattle.xs_check.specs.Passes.{first_fault}
use Rattle.xs_scene.specs.Records.{SceneRecord}
use Rattle.xs_top.specs.declared.status.Status.{Status}
use Rattle.xs_top.specs.Trace.{Event, Ask, Place, Line, puts, Outcome, ended, after}
use Rattle.xs_levels.specs.Films.{Files}
use Rattle.xs_top.specs.Frames.{frame_at}
use Rattle.xs_top.specs.Drawings.{file_of, pictures_of, fault_of, bytes_of}
use Rattle.xs_top.specs.Demand.{limit_in, plan_in}
use Rattle.xs_top.specs.declared.limits.TheConstants.{MOST_SECTION_BYTES}
use Rattle.xs_top.specs.declared.status.Status.TheVariants as answers
use Rattle.xs_plan.specs.Record.{PlanRecord}
use Rattle.xs_demand.specs.Limits.{Limit}
use Rattle.xs_dryrun.specs.declared.limits.What.TheVariants as what
use Rattle.xs_base.specs.Sections.{sections_of, section_rows, sections_in, rows_before}
use Rattle.xs_top.specs.Finished.{Says, frames_of}
use Rattle.xs_top.specs.Refused.{IsAskedBehind}
use Rattle.xs_base.specs.Listed.{is_listed}
use Rattle.xs_base.specs.Once.{fresh}
use Rattle.xs_meaning.specs.Expressions.{needed}
use Rattle.xs_top.proofs.Listings.{fresh_new}
use Rattle.xs_top.proofs.Scenes.{scene_asked}
use Rattle.std.proofs.Math.Bool.{or-true}
use Rattle.std.proofs.lemmas.Bool.Decides.{nat_tests}
use Rattle.xs_top.specs.Outcome.{asking, placing, noting, if_faultless, within_limits, counted, accepted, loading, placing_rows, rendering_sections, closing, rendering_scene, rendering}
use Rattle.xs_top.proofs.Drawn.{loading_none, loading_first}
use Rattle.xs_top.proofs.Placed.{placing_none, placing_first}
use Rattle.xs_top.proofs.Sections.{section_is, sections_first, sections_none, sections_are, rows_before_more}
use Rattle.xs_top.proofs.Finishing.{scene_through}

-- what is so of a file that is asked for and of the files on the shelf then
pub record AtAsks (Q : List ℕ → List Object → Type 0) (all : Outcome) : Type 0 where
  pub at : (done rest : List Event) (asked : List ℕ) → all.work ≡ done ++ Ask asked ∷ rest → Q asked (puts done)

at_weaker : (Q R : List ℕ → List Object → Type 0) (all : Outcome) → ((asked : List ℕ) (objects : List Object) → Q asked objects → R asked objects)
    → AtAsks Q all → AtAsks R all
at_weaker Q R all weaker a = record { at = λ done rest asked e. weaker asked (puts done) (a.at done rest asked e) }

tail_same : {A : Type 0} {x y : A} {xs ys : List A} → x ∷ xs ≡ y ∷ ys → xs ≡ ys
tail_same e = cc

module _ (Q : List ℕ → List Object → Type 0) where
  ended_at : (status : Status) (done rest : List Event) (asked : List ℕ) → (ended status).work ≡ done ++ Ask asked ∷ rest → Q asked (puts done)
  ended_at status [] rest asked e = absurd cc
  ended_at status (event ∷ done) rest asked e = absurd cc

  at_ended : (status : Status) → AtAsks Q (ended status)
  at_ended status = record { at = ended_at status }

  ask_at : (name : List ℕ) (next : Outcome) → Q name [] → AtAsks Q next → (done rest : List Event) (asked : List ℕ)
      → Ask name ∷ next.work ≡ done ++ Ask asked ∷ rest → Q asked (puts done)
  ask_at name next none a [] rest asked e = let same : name ≡ asked = cc in subst (λ (n : List ℕ). Q n []) same none
  ask_at name next none a (Ask other ∷ done) rest asked e = a.at done rest asked (tail_same e)
  ask_at name next none a (Place object ∷ done) rest asked e = absurd cc
  ask_at name next none a (Line line ∷ done) rest asked e = absurd cc

  at_ask : (name : List ℕ) (next : Outcome) → Q name [] → AtAsks Q next → AtAsks Q (after (Ask name ∷ []) next)
  at_ask name next none a = record { at = ask_at name next none a }

  place_at : (object : Object) (next : Outcome) → AtAsks (λ asked objects. Q asked (object ∷ objects)) next
      → (done rest : List Event) (asked : List ℕ) → Place object ∷ next.work ≡ done ++ Ask asked ∷ rest → Q asked (puts done)
  place_at object next a [] rest asked e = absurd cc
  place_at object next a (Ask other ∷ done) rest asked e = absurd cc
  place_at object next a (Place other ∷ done) rest asked e =
      let same : object ≡ other = cc in
      subst (λ (o : Object). Q asked (o ∷ puts done)) same (a.at done rest asked (tail_same e))
  place_at object next a (Line line ∷ done) rest asked e = absurd cc

  at_place : (object : Object) (next : Outcome) → AtAsks (λ asked objects. Q asked (object ∷ objects)) next → AtAsks Q (after (Place object ∷ []) next)
  at_place object next a = record { at = place_at object next a }

  line_at : (line : List ℕ) (next : Outcome) → AtAsks Q next → (done rest : List Event) (asked : List ℕ)
      → Line line ∷ next.work ≡ done ++ Ask asked ∷ rest → Q asked (puts done)
  line_at line next a [] rest asked e = absurd cc
  line_at line next a (Ask other ∷ done) rest asked e = absurd cc
  line_at line next a (Place object ∷ done) rest asked e = absurd cc
  line_at line next a (Line other ∷ done) rest asked e = a.at done rest asked (tail_same e)

  at_line : (line : List ℕ) (next : Outcome) → AtAsks Q next → AtAsks Q (after (Line line ∷ []) next)
  at_line line next a = record { at = line_at line next a }

  -- ---- drawings

  at_counted : (bytes : ℕ) (next : Outcome) → AtAsks Q next → AtAsks Q (counted bytes next)
  at_counted bytes next a =
      elim (nat_le bytes MOST_SECTION_BYTES) as (λ t. AtAsks Q (if t then next else ended (answers.Limit what.SectionBytes MOST_SECTION_BYTES))) [
        | true ↦ a
        | false ↦ at_ended _
      ]

  at_accepted : (d : ℕ) (fault : Option LevelCode) (bytes : ℕ) (next : Outcome) → AtAsks Q next → AtAsks Q (accepted d fault bytes next)
  at_accepted d None bytes next a = at_counted bytes next a
  at_accepted d (Some code) bytes next a = at_ended _

  at_loading : (files : Files) (s : SceneRecord) (ds : List ℕ) (over : ℕ) (next : Outcome) → ((d : ℕ) → is_listed ds d ≡ true → Q (file_of s d) [])
      → AtAsks Q next → AtAsks Q (loading files s over ds next)
  at_loading files s [] over next none a = rw (loading_none files s over next) a
  at_loading files s (d ∷ ds) over next none a =
      let here : is_listed (d ∷ ds) d ≡ true = grind (arith, nat_tests) in
      rw (loading_first files s over d ds next)
      (at_ask (file_of s d) _ (none d here)
      (at_accepted d (fault_of files s d) _ _
      (at_loading files s ds (over + bytes_of files s d) next (λ e listed. none e (ap (λ t. (d == e) || t) listed ∙ or-true _)) a)))

  at_within : (limit : Option Limit) (next : Outcome) → AtAsks Q next → AtAsks Q (within_limits limit next)
  at_within None next a = a
  at_within (Some limit) next a = at_ended _

  at_checked : (fault : Option SceneFault) (next : Outcome) → AtAsks Q next → AtAsks Q (if_faultless fault next)
  at_checked None next a = a
  at_checked (Some fault) next a = at_ended _

-- ---- rows and sections

at_rows : (s : SceneRecord) (pictures : Pictures) (base rows : List ℕ) (next : Outcome) (Q : List ℕ → List Object → Type 0)
    → AtAsks (λ asked objects. Q asked (map (frame_at s pictures base) rows ++ objects)) next → AtAsks Q (placing_rows s pictures base rows next)
unfolding placing
at_rows s pictures base [] next Q a = rw (placing_none s pictures base next) a
at_rows s pictures base (row ∷ rows) next Q a =
    rw (placing_first s pictures base row rows next)
    (at_place Q (frame_at s pictures base row) _ (at_rows s pictures base rows next (λ asked objects. Q asked (frame_at s pictures base row ∷ objects)) a))

module _ (files : Files) (s : SceneRecord) (base : List ℕ) (from to : ℕ) where
  -- so it is behind the frames of the first sections
  abbrev Behind : ℕ → List ℕ → List Object → Type 0
  Behind i asked objects = IsAskedBehind files s base from to asked (frames_of files s base (rows_before from to i) ++ objects)

  asked_now : (i d : ℕ) → i < sections_in from to → is_listed (fresh (needed s (rows_before from to i)) (needed s (section_rows from to i))) d ≡ true
      → Behind i (file_of s d) []
  asked_now i d within listed =
      let new = fresh_new (needed s (section_rows from to i)) d (needed s (rows_before from to i)) listed in
      record { drawing = d; section = i; within = within; named = refl; needs = new.1; first = new.0; frames = append-nil _ }

  asked_later : (i : ℕ) (asked : List ℕ) (objects : List Object) → Behind (i + 1) asked objects
      → Behind i asked (frames_of files s base (section_rows from to i) ++ objects)
  asked_later i asked objects behind =
      let first = frames_of files s base (rows_before from to i) in
      let same : frames_of files s base (rows_before from to (i + 1)) ++ objects ≡ first ++ (frames_of files s base (section_rows from to i) ++ objects) =
      ap (λ l. l ++ objects) (ap (frames_of files s base) (rows_before_more from to i) ∙ map-append _ (rows_before from to i) (section_rows from to i))
      ∙ append_assoc first (frames_of files s base (section_rows from to i)) objects in
      rw (← same) behind

  at_sections : (p : PlanRecord) (n i : ℕ) (next : Outcome) → i + n ≤ sections_in from to → ((Q : List ℕ → List Object → Type 0) → AtAsks Q next)
      → AtAsks (Behind i) (rendering_sections files s base p i (rows_before from to i) (map (section_rows from to) (range_with_len i n)) next)
  at_sections p zero i next within a = rw (sections_none files s base p i (rows_before from to i) next) (a (Behind i))
  at_sections p (suc n) i next within a =
      let rows = section_rows from to i in
      let later = map (section_rows from to) (range_with_len (i + 1) n) in
      let rest = at_sections p n (i + 1) next (omega arith) a in
      rw (
        sections_first files s base p i (rows_before from to i) rows later next,
        section_is files s base p i (rows_before from to i) rows
            (rendering_sections files s base p (i + 1) (rows_before from to i ++ rows) later next),
        ← rows_before_more from to i,
      )
      (at_loading (Behind i) files s _ _ _ (λ d listed. asked_now i d (omega arith) listed)
      (at_rows s (pictures_of files s) base rows _ (Behind i)
      (at_weaker (Behind (i + 1)) (λ asked objects. Behind i asked (frames_of files s base rows ++ objects)) _ (asked_later i) rest)))

  at_closing : (p : PlanRecord) (Q : List ℕ → List Object → Type 0) → AtAsks Q (closing p)
  unfolding closing noting
  at_closing p Q = at_line Q _ _ (at_ended Q _)

  at_scene : AtAsks (Behind 0) (rendering_scene files from to base s)
  at_scene =
      let p = plan_in s from to in
      at_within (Behind 0) (limit_in s from to) (rendering_sections files s base p 0 [] (sections_of from to) (closing p))
      (rw (sections_are from to) (at_sections p (sections_in from to) 0 (closing p) (omega arith) (at_closing p)))

  pub asked_behind_sections : (name : List ℕ) → Says files name s → (done rest : List Event) (asked : List ℕ)
      → (rendering files name from to base).work ≡ Ask name ∷ (done ++ Ask asked ∷ rest) → IsAskedBehind files s base from to asked (puts done)
  unfolding rendering
  asked_behind_sections name says done rest asked e =
      let scene = scene_through files name s (rendering_scene files from to base) says in
      (at_checked (Behind 0) (first_fault s) _ at_scene).at done rest asked (tail_same (ap (λ o. o.work) (sym scene) ∙ e))

-- the scene is asked for first
pub asked_first : (files : Files) (name base : List ℕ) (from to : ℕ) → (events : List Event) × ((rendering files name from to base).work ≡ Ask name ∷ events)
unfolding rendering asking
asked_first files name base from to = (_, ap (λ o. o.work) (scene_asked files name (rendering_scene files from to base)))
