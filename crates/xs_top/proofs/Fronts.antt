-- The files that a render puts on the shelf are frames of its rows from the first on.
use Rattle.std.proofs.Common.{◌≡◌, ℕ, ◌+◌, ◌-◌, ◌≤◌, Bool, true, false, List, [], ◌∷◌, ◌++◌, length, map, nat_le, if◌then◌else◌, Option, Some, None, Ok, Err, ◌⊎◌, inl, inr, refl, ap, ◌∙◌, subst, arith}
use Rattle.std.proofs.lemmas.Bool.Decides.{nat_tests}
use Rattle.std.proofs.lemmas.List.{map-append}
use Rattle.xs_outside.specs.declared.object.Object.{Object}
use Rattle.xs_fault.specs.declared.fault.SceneFault.{SceneFault}
use Rattle.xs_fault.specs.declared.code.SceneCode.TheVariants as scene_code
use Rattle.xs_json.specs.Parsing.{Parsed}
use Rattle.xs_rawfile.specs.declared.fault.LevelCode.{LevelCode}
use Rattle.xs_pixel.specs.Picture.{Pictures}
use Rattle.xs_check.specs.Passes.{first_fault}
use Rattle.xs_scene.specs.Records.{SceneRecord}
use Rattle.xs_scene_json.specs.SceneText.{scene_of}
use Rattle.xs_base.specs.declared.limits.TheConstants.{SCENE_LIMIT}
use Rattle.xs_top.specs.declared.status.Status.{Status}
use Rattle.xs_top.specs.declared.status.Status.TheVariants as answers
use Rattle.xs_top.specs.Trace.{Ask, Place, puts, Outcome, ended, after}
use Rattle.xs_levels.specs.Films.{Files}
use Rattle.xs_top.specs.Frames.{frame_at}
use Rattle.xs_top.specs.Drawings.{file_of, pictures_of, fault_of, bytes_of}
use Rattle.xs_top.specs.Demand.{limit_in, plan_in}
use Rattle.xs_top.specs.declared.limits.TheConstants.{MOST_SECTION_BYTES}
use Rattle.xs_plan.specs.Record.{PlanRecord}
use Rattle.xs_demand.specs.Limits.{Limit}
use Rattle.xs_dryrun.specs.declared.limits.What.TheVariants as what
use Rattle.xs_base.specs.Sections.{rows_of, sections_of}
use Rattle.xs_top.specs.Finished.{Says, frames_of}
use Rattle.xs_top.specs.Outcome.{asking, placing, noting, if_faultless, decoded, within_limits, counted, accepted, loading_scene, loading, placing_rows, rendering_sections, closing, rendering_scene, rendering}
use Rattle.xs_top.proofs.Answered.{found_absent, found_there, found_too_long}
use Rattle.xs_top.proofs.Scenes.{scene_asked}
use Rattle.xs_top.proofs.Drawn.{loading_none, loading_first}
use Rattle.xs_top.proofs.Placed.{placing_none, placing_first}
use Rattle.xs_top.proofs.Sections.{section_is, sections_first, sections_none}
use Rattle.xs_top.proofs.Finishing.{joined, joined_sections, scene_through}

-- the files that are put on the shelf are these from the first on, up to some place
pub record IsFront (whole : List Object) (all : Outcome) : Type 0 where
  pub rest : List Object
  pub split : whole ≡ puts all.work ++ rest

front_ended : (whole : List Object) (status : Status) → IsFront whole (ended status)
front_ended whole status = record { rest = whole; split = refl }

front_ask : (whole : List Object) (name : List ℕ) (next : Outcome) → IsFront whole next → IsFront whole (after (Ask name ∷ []) next)
front_ask whole name next f = record { rest = f.rest; split = f.split }

front_place : (whole : List Object) (object : Object) (next : Outcome) → IsFront whole next → IsFront (object ∷ whole) (after (Place object ∷ []) next)
front_place whole object next f = record { rest = f.rest; split = ap (λ objects. object ∷ objects) f.split }

-- ---- drawings

module _ (whole : List Object) where
  front_counted : (bytes : ℕ) (next : Outcome) → IsFront whole next → IsFront whole (counted bytes next)
  front_counted bytes next f =
      elim (nat_le bytes MOST_SECTION_BYTES) as (λ t. IsFront whole (if t then next else ended (answers.Limit what.SectionBytes MOST_SECTION_BYTES))) [
        | true ↦ f
        | false ↦ front_ended whole _
      ]

  front_accepted : (d : ℕ) (fault : Option LevelCode) (bytes : ℕ) (next : Outcome) → IsFront whole next → IsFront whole (accepted d fault bytes next)
  front_accepted d None bytes next f = front_counted bytes next f
  front_accepted d (Some code) bytes next f = front_ended whole _

  front_loading : (files : Files) (s : SceneRecord) (ds : List ℕ) (over : ℕ) (next : Outcome) → IsFront whole next → IsFront whole (loading files s over ds next)
  front_loading files s [] over next f = rw (loading_none files s over next) f
  front_loading files s (d ∷ ds) over next f =
      rw (loading_first files s over d ds next)
      (front_ask whole (file_of s d) _ (front_accepted d (fault_of files s d) _ _ (front_loading files s ds (over + bytes_of files s d) next f)))

-- ---- rows and sections

front_rows : (s : SceneRecord) (pictures : Pictures) (base rows : List ℕ) (whole : List Object) (next : Outcome) → IsFront whole next
    → IsFront (map (frame_at s pictures base) rows ++ whole) (placing_rows s pictures base rows next)
unfolding placing
front_rows s pictures base [] whole next f = rw (placing_none s pictures base next) f
front_rows s pictures base (row ∷ rows) whole next f =
    rw (placing_first s pictures base row rows next)
    (front_place _ (frame_at s pictures base row) _ (front_rows s pictures base rows whole next f))

front_sections : (files : Files) (s : SceneRecord) (base : List ℕ) (p : PlanRecord) (sections : List (List ℕ)) (n : ℕ) (earlier : List ℕ) (next : Outcome)
    → IsFront [] next → IsFront (frames_of files s base (joined sections)) (rendering_sections files s base p n earlier sections next)
front_sections files s base p [] n earlier next f = rw (sections_none files s base p n earlier next) f
front_sections files s base p (rows ∷ sections) n earlier next f =
    let rest = rendering_sections files s base p (n + 1) (earlier ++ rows) sections next in
    rw (
      map-append (frame_at s (pictures_of files s) base) rows (joined sections),
      sections_first files s base p n earlier rows sections next,
      section_is files s base p n earlier rows rest,
    )
    (front_loading _ files s _ _ _ (front_rows s (pictures_of files s) base rows _ rest (front_sections files s base p sections (n + 1) (earlier ++ rows) next f)))

front_closing : (p : PlanRecord) → IsFront [] (closing p)
unfolding closing noting
front_closing p = record { rest = []; split = refl }

front_within : (whole : List Object) (limit : Option Limit) (next : Outcome) → IsFront whole next → IsFront whole (within_limits limit next)
front_within whole None next f = f
front_within whole (Some limit) next f = front_ended whole _

front_checked : (whole : List Object) (fault : Option SceneFault) (next : Outcome) → IsFront whole next → IsFront whole (if_faultless fault next)
front_checked whole None next f = f
front_checked whole (Some fault) next f = front_ended whole _

pub front_rendering : (files : Files) (name base : List ℕ) (s : SceneRecord) (from to : ℕ) → from ≤ to → Says files name s
    → IsFront (frames_of files s base (rows_of from to)) (rendering files name from to base)
unfolding rendering
front_rendering files name base s from to ordered says =
    let p = plan_in s from to in
    let sections = front_sections files s base p (sections_of from to) 0 [] (closing p) (front_closing p) in
    rw (scene_through files name s (rendering_scene files from to base) says)
    (front_ask _ name _
    (front_checked _ (first_fault s) (rendering_scene files from to base s)
    (front_within _ (limit_in s from to) (rendering_sections files s base p 0 [] (sections_of from to) (closing p))
    (subst (λ (rows : List ℕ). IsFront (frames_of files s base rows) (rendering_sections files s base p 0 [] (sections_of from to) (closing p))) (joined_sections from to ordered) sections))))

-- ---- whether a file says a scene

-- no file says a scene, and the run ends
pub record SaysNone (files : Files) (name : List ℕ) (next : SceneRecord → Outcome) : Type 0 where
  pub fault : SceneFault
  pub none : (s : SceneRecord) → Says files name s → ⊥
  pub ends : loading_scene files name next ≡ after (Ask name ∷ []) (ended (answers.Scene fault))

module _ (files : Files) (name : List ℕ) (next : SceneRecord → Outcome) where
  abbrev SaysOrNot : Type 0
  SaysOrNot = ((s : SceneRecord) × Says files name s) ⊎ SaysNone files name next

  abbrev load : List ℕ → Outcome
  load bytes = decoded (scene_of bytes) next

  read_or_not : (bytes : List ℕ) → files name ≡ Some bytes → length bytes ≤ SCENE_LIMIT → (reading : Parsed SceneRecord) → scene_of bytes ≡ reading
      → SaysOrNot
  unfolding asking
  read_or_not bytes there short (Ok s) e = inl (s, record { bytes = bytes; there = there; short = short; text = e })
  read_or_not bytes there short (Err fault) e = inr (record {
    fault = fault;
    none = λ s says. let same : says.bytes ≡ bytes = cc (says.there, there) in absurd (let text = says.text in cc);
    ends =
        scene_asked files name next
        ∙ ap (after (Ask name ∷ [])) (found_there SCENE_LIMIT _ _ load (files name) bytes there short ∙ ap (λ reading. decoded reading next) e);
  })

  short_or_not : (bytes : List ℕ) → files name ≡ Some bytes → (t : Bool) → nat_le (length bytes) SCENE_LIMIT ≡ t → SaysOrNot
  unfolding asking
  short_or_not bytes there true e = read_or_not bytes there (grind (arith, nat_tests)) (scene_of bytes) refl
  short_or_not bytes there false e = inr (record {
    fault = record { code = scene_code.TooLong; path = [] };
    none = λ s says. let same : says.bytes ≡ bytes = cc (says.there, there) in absurd (let short = says.short in grind (arith, nat_tests));
    ends =
        scene_asked files name next
        ∙ ap (after (Ask name ∷ [])) (found_too_long SCENE_LIMIT _ _ load (files name) bytes there (grind (arith, nat_tests)));
  })

  there_or_not : (file : Option (List ℕ)) → files name ≡ file → SaysOrNot
  unfolding asking
  there_or_not None e = inr (record {
    fault = record { code = scene_code.NoScene; path = [] };
    none = λ s says. absurd (let there = says.there in cc);
    ends = scene_asked files name next ∙ ap (after (Ask name ∷ [])) (found_absent SCENE_LIMIT _ _ load (files name) e);
  })
  there_or_not (Some bytes) e = short_or_not bytes e (nat_le (length bytes) SCENE_LIMIT) refl

  pub says_or_not : SaysOrNot
  says_or_not = there_or_not (files name) refl
