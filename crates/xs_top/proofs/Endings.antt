-- How a render may end, and what is told of a scene that is not there or too long.
use Rattle.xs_top.specs.Frames.{frame_at}
use Rattle.xs_outside.specs.declared.object.Object.{Object}
use Rattle.xs_pixel.specs.Picture.{Pictures}
use Rattle.std.proofs.Common.{◌≡◌, ℕ, ◌<◌, Bool, true, false, List, [], ◌∷◌, ◌++◌, ◌+◌, ◌-◌, length, nat_le, if◌then◌else◌, Option, Some, None, Ok, Err, ◌↔◌, refl, sym, ap, ◌∙◌, arith}
use Rattle.std.proofs.lemmas.Bool.Decides.{nat_tests}
use Rattle.xs_fault.specs.declared.fault.SceneFault.{SceneFault}
use Rattle.xs_fault.specs.declared.code.SceneCode.{SceneCode}
use Rattle.xs_fault.specs.declared.code.SceneCode.TheVariants as scene_code
use Rattle.xs_json.specs.Parsing.{Parsed}
use Rattle.xs_rawfile.specs.declared.fault.LevelCode.{LevelCode}
use Rattle.xs_check.specs.Codes.{is_of_checking}
use Rattle.xs_check.specs.Passes.{first_fault}
use Rattle.xs_scene.specs.Records.{SceneRecord}
use Rattle.xs_scene_json.specs.Faults.{is_text_code}
use Rattle.xs_scene_json.specs.SceneText.{scene_of}
use Rattle.xs_base.specs.declared.limits.TheConstants.{SCENE_LIMIT}
use Rattle.xs_base.specs.Sections.{sections_of}
use Rattle.xs_top.specs.declared.status.Status.{Status}
use Rattle.xs_top.specs.declared.status.Status.TheVariants as answers
use Rattle.xs_top.specs.Trace.{Outcome, ended, Ask, Place, after}
use Rattle.xs_levels.specs.Films.{Files}
use Rattle.xs_top.specs.Drawings.{file_of, pictures_of, fault_of, bytes_of}
use Rattle.xs_top.specs.Demand.{limit_in, plan_in}
use Rattle.xs_top.specs.declared.limits.TheConstants.{MOST_SECTION_BYTES}
use Rattle.xs_plan.specs.Record.{PlanRecord}
use Rattle.xs_demand.specs.Limits.{Limit}
use Rattle.xs_dryrun.specs.declared.limits.What.{What}
use Rattle.xs_dryrun.specs.declared.limits.What.TheVariants as what
use Rattle.xs_top.specs.Causes.{is_lost_scene}
use Rattle.xs_top.specs.Refused.{IsTooLong}
use Rattle.xs_top.specs.Outcome.{no_scene, found, asking, placing, noting, if_faultless, decoded, within_limits, counted, accepted, loading_scene, loading, placing_rows, rendering_sections, closing, rendering_rows, rendering_scene, showing_scene}
use Rattle.xs_top.proofs.Answered.{found_absent, found_too_long}
use Rattle.xs_top.proofs.Scenes.{scene_asked, CheckingCodes, TextCodes, not_lost}
use Rattle.xs_top.proofs.Drawn.{loading_none, loading_first}
use Rattle.xs_top.proofs.Sections.{section_is, sections_first, sections_none}
use Rattle.xs_top.proofs.Placed.{placing_none, placing_first}

-- ---- what is so of each answer that tells a drawing, and stays so behind each file that is asked for or placed

pub record Stays (P : Outcome → Type 0) : Type 0 where
  pub told : (d : ℕ) (code : LevelCode) → P (ended (answers.Level d code))
  pub limited : (w : What) (limit : ℕ) → P (ended (answers.Limit w limit))
  pub asked : (name : List ℕ) (next : Outcome) → P next → P (after (Ask name ∷ []) next)
  pub placed : (object : Object) (next : Outcome) → P next → P (after (Place object ∷ []) next)

module _ (P : Outcome → Type 0) (stays : Stays P) where
  counted_in : (bytes : ℕ) (next : Outcome) → P next → P (counted bytes next)
  counted_in bytes next p =
      elim (nat_le bytes MOST_SECTION_BYTES) as (λ t. P (if t then next else ended (answers.Limit what.SectionBytes MOST_SECTION_BYTES))) [
        | true ↦ p
        | false ↦ stays.limited what.SectionBytes MOST_SECTION_BYTES
      ]

  accepted_in : (d : ℕ) (fault : Option LevelCode) (bytes : ℕ) (next : Outcome) → P next → P (accepted d fault bytes next)
  accepted_in d None bytes next p = counted_in bytes next p
  accepted_in d (Some code) bytes next p = stays.told d code

  within_in : (limit : Option Limit) (next : Outcome) → P next → P (within_limits limit next)
  within_in None next p = p
  within_in (Some limit) next p = stays.limited _ _

  found_in : (file : Option (List ℕ)) (limit : ℕ) (absent too_long : Status) (next : List ℕ → Outcome) → P (ended absent) → P (ended too_long)
      → ((bytes : List ℕ) → P (next bytes)) → P (found file limit absent too_long next)
  found_in None limit absent too_long next none long p = none
  found_in (Some bytes) limit absent too_long next none long p =
      elim (nat_le (length bytes) limit) as (λ t. P (if t then next bytes else ended too_long)) [
        | true ↦ p bytes
        | false ↦ long
      ]

  loading_in : (files : Files) (s : SceneRecord) (ds : List ℕ) (over : ℕ) (next : Outcome) → P next → P (loading files s over ds next)
  loading_in files s [] over next p = rw (loading_none files s over next) p
  loading_in files s (d ∷ ds) over next p =
      rw (loading_first files s over d ds next)
      (stays.asked (file_of s d) _ (accepted_in d (fault_of files s d) _ _ (loading_in files s ds (over + bytes_of files s d) next p)))

  rows_in : (s : SceneRecord) (pictures : Pictures) (base rows : List ℕ) (next : Outcome) → P next → P (placing_rows s pictures base rows next)
  unfolding placing
  rows_in s pictures base [] next p = rw (placing_none s pictures base next) p
  rows_in s pictures base (row ∷ rows) next p =
      rw (placing_first s pictures base row rows next) (stays.placed (frame_at s pictures base row) _ (rows_in s pictures base rows next p))

  sections_in : (files : Files) (s : SceneRecord) (base : List ℕ) (p : PlanRecord) (n : ℕ) (earlier : List ℕ) (sections : List (List ℕ)) (next : Outcome)
      → P next → P (rendering_sections files s base p n earlier sections next)
  sections_in files s base p n earlier [] next holds = rw (sections_none files s base p n earlier next) holds
  sections_in files s base p n earlier (rows ∷ sections) next holds =
      let rest = rendering_sections files s base p (n + 1) (earlier ++ rows) sections next in
      rw (sections_first files s base p n earlier rows sections next, section_is files s base p n earlier rows rest)
      (loading_in files s _ _ _ (rows_in s (pictures_of files s) base rows rest (sections_in files s base p (n + 1) (earlier ++ rows) sections next holds)))

  pub rows_in_scene : (files : Files) (s : SceneRecord) (base : List ℕ) (from to : ℕ) (next : PlanRecord → Outcome) → P (next (plan_in s from to))
      → P (rendering_rows files s from to base next)
  rows_in_scene files s base from to next p =
      within_in (limit_in s from to) (rendering_sections files s base (plan_in s from to) 0 [] (sections_of from to) (next (plan_in s from to)))
      (sections_in files s base (plan_in s from to) 0 [] (sections_of from to) _ p)

  pub scene_in : (files : Files) (s : SceneRecord) (base : List ℕ) (from to : ℕ) → P (closing (plan_in s from to)) → P (rendering_scene files from to base s)
  scene_in files s base from to p = rows_in_scene files s base from to closing p

  -- and so of what follows a scene, where it is so of each answer that tells a scene
  module _ (refused : (fault : SceneFault) → P (ended (answers.Scene fault))) (next : SceneRecord → Outcome) (p : (s : SceneRecord) → P (next s)) where
    checked_in : (fault : Option SceneFault) (s : SceneRecord) → P (if_faultless fault (next s))
    checked_in None s = p s
    checked_in (Some fault) s = refused fault

    decoded_in : (reading : Parsed SceneRecord) → P (decoded reading next)
    decoded_in (Err fault) = refused fault
    decoded_in (Ok s) = checked_in (first_fault s) s

    pub scene_loaded_in : (files : Files) (name : List ℕ) → P (loading_scene files name next)
    unfolding loading_scene asking
    scene_loaded_in files name =
        stays.asked name _
        (found_in (files name) SCENE_LIMIT (no_scene scene_code.NoScene) (no_scene scene_code.TooLong) (λ bytes. decoded (scene_of bytes) next)
        (refused _) (refused _) (λ bytes. decoded_in (scene_of bytes)))

-- what is so of an answer
pub status_stays : (P : Status → Type 0) → ((d : ℕ) (code : LevelCode) → P (answers.Level d code))
    → ((w : What) (limit : ℕ) → P (answers.Limit w limit)) → Stays (λ o. P o.status)
status_stays P told limited = record { told = told; limited = limited; asked = λ name next p. p; placed = λ object next p. p }

pub closing_ends : (p : PlanRecord) → (closing p).status ≡ answers.Ok
unfolding closing noting
closing_ends p = refl

-- ---- a scene that is not there or too long

-- the answers that tell so
abbrev is_lost : Status → Bool
is_lost (answers.Scene fault) = is_lost_scene fault.code
is_lost status = false

-- the code that is told of a scene
abbrev told_code : Status → SceneCode
told_code (answers.Scene fault) = fault.code
told_code status = scene_code.NotJson

module _ (texts : TextCodes) (checking : CheckingCodes) (files : Files) (name : List ℕ) (next : SceneRecord → Outcome)
    (after_it : (s : SceneRecord) → is_lost (next s).status ≡ false) where
  checked_kept : (s : SceneRecord) (fault : Option SceneFault) → first_fault s ≡ fault → is_lost (if_faultless fault (next s)).status ≡ false
  checked_kept s None e = after_it s
  checked_kept s (Some fault) e = not_lost is_of_checking refl refl fault.code (checking s fault e)

  read_kept : (bytes : List ℕ) (reading : Parsed SceneRecord) → scene_of bytes ≡ reading → is_lost (decoded reading next).status ≡ false
  read_kept bytes (Ok s) e = checked_kept s (first_fault s) refl
  read_kept bytes (Err fault) e = not_lost is_text_code refl refl fault.code (texts bytes fault e)

  abbrev after_bytes : List ℕ → Outcome
  after_bytes bytes = decoded (scene_of bytes) next

  abbrev loaded : Option (List ℕ) → Status
  loaded file = (found file SCENE_LIMIT (no_scene scene_code.NoScene) (no_scene scene_code.TooLong) after_bytes).status

  -- which of the two was told
  none_told : (status : Status) → is_lost status ≡ false → (code : SceneCode) → is_lost_scene code ≡ true → status ≡ no_scene code → ⊥
  none_told status kept code lost e = let same : is_lost status ≡ is_lost_scene code = ap is_lost e in cc

  long_absent : (bytes : List ℕ) (t : Bool) → (if t then after_bytes bytes else ended (no_scene scene_code.TooLong)).status ≡ no_scene scene_code.NoScene → ⊥
  long_absent bytes true e = none_told _ (read_kept bytes (scene_of bytes) refl) scene_code.NoScene refl e
  long_absent bytes false e = let codes : scene_code.TooLong ≡ scene_code.NoScene = ap told_code e in cc

  file_absent : (file : Option (List ℕ)) → loaded file ≡ no_scene scene_code.NoScene → file ≡ None
  file_absent None e = refl
  file_absent (Some bytes) e = absurd (long_absent bytes (nat_le (length bytes) SCENE_LIMIT) e)

  long_if : (bytes : List ℕ) (t : Bool) → nat_le (length bytes) SCENE_LIMIT ≡ t
      → (if t then after_bytes bytes else ended (no_scene scene_code.TooLong)).status ≡ no_scene scene_code.TooLong → SCENE_LIMIT < length bytes
  long_if bytes true is e = absurd (none_told _ (read_kept bytes (scene_of bytes) refl) scene_code.TooLong refl e)
  long_if bytes false is e = grind (arith, nat_tests)

  file_long : (file : Option (List ℕ)) → files name ≡ file → loaded file ≡ no_scene scene_code.TooLong → IsTooLong files name
  file_long None there e = let codes : scene_code.NoScene ≡ scene_code.TooLong = ap told_code e in absurd cc
  file_long (Some bytes) there e = (bytes, there, long_if bytes (nat_le (length bytes) SCENE_LIMIT) refl e)

  loading_is : (loading_scene files name next).status ≡ loaded (files name)
  unfolding asking
  loading_is = ap (λ o. o.status) (scene_asked files name next)

  pub absent_told : ((loading_scene files name next).status ≡ no_scene scene_code.NoScene) ↔ (files name ≡ None)
  absent_told = (
    λ e. file_absent (files name) (sym loading_is ∙ e),
    λ none. loading_is ∙ ap (λ o. o.status) (found_absent SCENE_LIMIT _ _ after_bytes (files name) none),
  )

  pub too_long_told : ((loading_scene files name next).status ≡ no_scene scene_code.TooLong) ↔ IsTooLong files name
  too_long_told = (
    λ e. file_long (files name) refl (sym loading_is ∙ e),
    λ long. loading_is ∙ ap (λ o. o.status) (found_too_long SCENE_LIMIT _ _ after_bytes (files name) long.0 long.1 long.2),
  )

-- a render, and a scene that is shown, tell neither behind the scene
pub render_kept : (files : Files) (base : List ℕ) (from to : ℕ) (s : SceneRecord) → is_lost (rendering_scene files from to base s).status ≡ false
render_kept files base from to s =
    scene_in (λ o. is_lost o.status ≡ false) (status_stays (λ status. is_lost status ≡ false) (λ d code. refl) (λ w limit. refl)) files s base from to
    (ap is_lost (closing_ends _))

pub show_kept : (s : SceneRecord) → is_lost (showing_scene s).status ≡ false
unfolding noting
show_kept s = refl
