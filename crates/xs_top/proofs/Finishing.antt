-- What a render does that meets no fault.
use Rattle.std.proofs.Common.{◌≡◌, ℕ, zero, suc, ◌+◌, ◌-◌, ◌*◌, ◌≤◌, min, true, false, ◌||◌, ◌==◌, inl, inr, All, List, [], ◌∷◌, ◌++◌, map, flat_map, Option, Some, None, refl, sym, ap, ◌∙◌, subst, append_assoc, arith}
use Rattle.std.specs.List.{range_with_len}
use Rattle.std.proofs.Math.Bool.{or-true}
use Rattle.std.proofs.lemmas.Bool.Decides.{nat_tests}
use Rattle.std.proofs.lemmas.Grind.{flat_map-append}
use Rattle.std.proofs.lemmas.List.{map-append, append-nil}
use Rattle.std.proofs.lemmas.List.Folds.{flat_map-map}
use Rattle.xs_pixel.specs.Picture.{Pictures}
use Rattle.xs_base.specs.Listed.{is_listed}
use Rattle.xs_meaning.specs.Expressions.{drawings_of, root_of}
use Rattle.xs_base.specs.Once.{fresh, each_once}
use Rattle.xs_check.specs.Passes.{first_fault}
use Rattle.xs_scene.specs.Records.{SceneRecord}
use Rattle.xs_top.specs.declared.status.Status.TheVariants as answers
use Rattle.xs_top.specs.Trace.{Event, Ask, Place, Line, asks, puts, lines, Outcome, ended, after}
use Rattle.xs_levels.specs.Films.{Files}
use Rattle.xs_top.specs.Frames.{frame_at}
use Rattle.xs_top.specs.Drawings.{file_of, pictures_of, bytes_held_over}
use Rattle.xs_meaning.specs.Expressions.{needed}
use Rattle.xs_base.specs.Sections.{rows_of, section_rows, sections_in, sections_of, rows_before}
use Rattle.xs_top.specs.Finished.{Says, IsAccepted, AreAccepted, frames_of}
use Rattle.xs_top.specs.Demand.{limit_in, plan_in}
use Rattle.xs_top.specs.Loads.{loads_over, loads_in, loads, IsLoaded, StopsAt}
use Rattle.xs_top.specs.Rendered.{AreWithin}
use Rattle.xs_top.specs.declared.limits.TheConstants.{MOST_SECTION_BYTES}
use Rattle.xs_top.specs.declared.status.Status.{Status}
use Rattle.xs_plan.specs.Record.{PlanRecord}
use Rattle.xs_demand.specs.Limits.{Limit}
use Rattle.xs_dryrun.specs.declared.limits.What.TheVariants as what
use Rattle.xs_top.proofs.Walking.{Load, numbers, Cause, Walked, loading_walked, numbers_over, walked_then, walked_to, loaded_at, no_cause, one_first}
use Rattle.xs_top.specs.Outcome.{asking, placing, noting, decoded, if_faultless, within_limits, loading_scene, placing_rows, rendering_sections, rendered_line, closing, rendering_rows, rendering_scene, rendering}
use Rattle.xs_top.proofs.Parts.{asks-append, puts-append, lines-append, after-after}
use Rattle.xs_top.proofs.Answered.{found_there}
use Rattle.xs_top.proofs.Scenes.{scene_asked}
use Rattle.xs_top.proofs.Listings.{TakenOnce, fresh_listed}
use Rattle.xs_top.proofs.RowRanges.{range-append}
use Rattle.xs_top.proofs.Drawn.{asked_of, asks-asked, puts-asked, lines-asked}
use Rattle.xs_top.proofs.Placed.{placing_none, placing_first}
use Rattle.std.proofs.lemmas.Bool.{cases_eq, ne_eqb}
use Rattle.std.proofs.lemmas.List.Elements.{All-nil, All-cons, All-head, All-tail, All-weaker}
use Rattle.xs_top.proofs.Sections.{section_is, sections_first, sections_none, sections_are, rows_before_more}

-- ---- the rows of all sections

rows_up_to : (from to i : ℕ) → from ≤ to → i ≤ sections_in from to → rows_before from to i ≡ range_with_len from (min (8 * i) (to + 1 - from))
rows_up_to from to zero ordered within =
    let none : min (8 * 0) (to + 1 - from) ≡ 0 = omega arith in sym (ap (range_with_len from) none)
rows_up_to from to (suc i) ordered within =
    let next : suc i ≡ i + 1 = omega arith in
    let whole : min (8 * i) (to + 1 - from) ≡ 8 * i = omega arith in
    let count : 8 * i + min (to + 1 - (from + 8 * i)) 8 ≡ min (8 * suc i) (to + 1 - from) = omega arith in
    ap (rows_before from to) next ∙ (rows_before_more from to i
    ∙ (ap (λ rows. rows ++ section_rows from to i) (rows_up_to from to i ordered (omega arith) ∙ ap (range_with_len from) whole)
    ∙ (range-append from (8 * i) (min (to + 1 - (from + 8 * i)) 8) ∙ ap (range_with_len from) count)))

all_rows : (from to : ℕ) → from ≤ to → rows_before from to (sections_in from to) ≡ rows_of from to
all_rows from to ordered =
    let all : min (8 * sections_in from to) (to + 1 - from) ≡ to + 1 - from = omega arith in
    rows_up_to from to (sections_in from to) ordered (omega arith) ∙ ap (range_with_len from) all

-- ---- what the events of frames tell

pub placed_of : SceneRecord → Pictures → List ℕ → ℕ → Event
placed_of s pictures base row = Place (frame_at s pictures base row)

pub placing_through : (s : SceneRecord) (pictures : Pictures) (base rows : List ℕ) (next : Outcome)
    → placing_rows s pictures base rows next ≡ after (map (placed_of s pictures base) rows) next
unfolding placing placed_of
placing_through s pictures base [] next = placing_none s pictures base next
placing_through s pictures base (row ∷ rows) next =
    placing_first s pictures base row rows next ∙ ap (after (Place (frame_at s pictures base row) ∷ [])) (placing_through s pictures base rows next)

module _ (s : SceneRecord) (pictures : Pictures) (base : List ℕ) where
  pub asks-placed : (rows : List ℕ) → asks (map (placed_of s pictures base) rows) ≡ []
  unfolding placed_of
  asks-placed [] = refl
  asks-placed (row ∷ rows) = asks-placed rows

  puts-placed : (rows : List ℕ) → puts (map (placed_of s pictures base) rows) ≡ map (frame_at s pictures base) rows
  unfolding placed_of
  puts-placed [] = refl
  puts-placed (row ∷ rows) = ap (λ l. frame_at s pictures base row ∷ l) (puts-placed rows)

  lines-placed : (rows : List ℕ) → lines (map (placed_of s pictures base) rows) ≡ []
  unfolding placed_of
  lines-placed [] = refl
  lines-placed (row ∷ rows) = lines-placed rows

-- ---- sections

section_events : SceneRecord → Pictures → List ℕ → (earlier rows : List ℕ) → List Event
section_events s pictures base earlier rows =
    map (asked_of s) (fresh (needed s earlier) (needed s rows)) ++ map (placed_of s pictures base) rows

abbrev pub joined : List (List ℕ) → List ℕ
joined sections = flat_map (λ rows. rows) sections

sections_events : SceneRecord → Pictures → List ℕ → List ℕ → List (List ℕ) → List Event
sections_events s pictures base earlier [] = []
sections_events s pictures base earlier (rows ∷ sections) =
    section_events s pictures base earlier rows ++ sections_events s pictures base (earlier ++ rows) sections

pub needed-append : (s : SceneRecord) (rows more : List ℕ) → needed s (rows ++ more) ≡ needed s rows ++ needed s more
needed-append s rows more = flat_map-append (λ row. drawings_of (root_of s row)) rows more

-- the drawings that sections load, one section after another
sections_loads : Files → SceneRecord → PlanRecord → ℕ → List ℕ → List (List ℕ) → List Load
sections_loads files s p n earlier [] = []
sections_loads files s p n earlier (rows ∷ sections) =
    loads_over files s (bytes_held_over files s p n) (fresh (needed s earlier) (needed s rows)) ++ sections_loads files s p (n + 1) (earlier ++ rows) sections

module _ (files : Files) (s : SceneRecord) (base : List ℕ) (p : PlanRecord) where
  -- frames that are placed before what follows
  placed_walked : (rows : List ℕ) (loads : List Load) (events : List Event) (rest next : Outcome) → Walked files s loads events rest next
      → Walked files s loads (map (placed_of s (pictures_of files s) base) rows ++ events) (placing_rows s (pictures_of files s) base rows rest) next
  placed_walked rows loads events rest next (inl (all, same)) = inl (
    all,
    placing_through s (pictures_of files s) base rows rest
        ∙ (ap (after (map (placed_of s (pictures_of files s) base) rows)) same ∙ after-after (map (placed_of s (pictures_of files s) base) rows) events next),
  )
  placed_walked rows loads events rest next (inr stop) = inr (record {
    before = stop.before;
    behind = stop.behind;
    load = stop.load;
    place = stop.place;
    loaded = stop.loaded;
    status = stop.status;
    cause = stop.cause;
    ends = ap (λ o. o.status) (placing_through s (pictures_of files s) base rows rest) ∙ stop.ends;
    asked =
        ap (λ o. asks o.work) (placing_through s (pictures_of files s) base rows rest)
        ∙ (asks-append (map (placed_of s (pictures_of files s) base) rows) rest.work
        ∙ (ap (λ l. l ++ asks rest.work) (asks-placed s (pictures_of files s) base rows) ∙ stop.asked));
  })

  sections_walked : (sections : List (List ℕ)) (n : ℕ) (earlier : List ℕ) (next : Outcome)
      → Walked files s (sections_loads files s p n earlier sections) (sections_events s (pictures_of files s) base earlier sections)
      (rendering_sections files s base p n earlier sections next) next
  unfolding sections_loads sections_events section_events
  sections_walked [] n earlier next = inl (All-nil (IsLoaded files s), sections_none files s base p n earlier next)
  sections_walked (rows ∷ sections) n earlier next =
      let news = fresh (needed s earlier) (needed s rows) in
      let over = bytes_held_over files s p n in
      let rest = rendering_sections files s base p (n + 1) (earlier ++ rows) sections next in
      let placed = placing_rows s (pictures_of files s) base rows rest in
      let later = placed_walked rows _ _ rest next (sections_walked sections (n + 1) (earlier ++ rows) next) in
      let tell : asks (map (asked_of s) news) ≡ map (file_of s) (numbers (loads_over files s over news)) =
      asks-asked s news ∙ ap (map (file_of s)) (sym (numbers_over files s news over)) in
      rw (
        sections_first files s base p n earlier rows sections next,
        section_is files s base p n earlier rows rest,
        append_assoc (map (asked_of s) news) (map (placed_of s (pictures_of files s) base) rows)
            (sections_events s (pictures_of files s) base (earlier ++ rows) sections),
      )
      (walked_then files s _ _ _ _ _ placed next tell (loading_walked files s news over placed) later)

  -- they are those that the sections' rows need, each once
  sections_numbers : TakenOnce → (sections : List (List ℕ)) (n : ℕ) (earlier : List ℕ)
      → numbers (sections_loads files s p n earlier sections) ≡ fresh (needed s earlier) (needed s (joined sections))
  unfolding sections_loads fresh
  sections_numbers once [] n earlier = refl
  sections_numbers once (rows ∷ sections) n earlier =
      let news = fresh (needed s earlier) (needed s rows) in
      map-append (λ (load : Load). load.0) (loads_over files s (bytes_held_over files s p n) news) (sections_loads files s p (n + 1) (earlier ++ rows) sections)
      ∙ (ap (λ l. l ++ numbers (sections_loads files s p (n + 1) (earlier ++ rows) sections)) (numbers_over files s news (bytes_held_over files s p n))
      ∙ (ap (λ l. news ++ l)
      (sections_numbers once sections (n + 1) (earlier ++ rows) ∙ ap (λ l. fresh l (needed s (joined sections))) (needed-append s earlier rows))
      ∙ (sym (once.all (needed s earlier) (needed s rows) (needed s (joined sections)))
      ∙ ap (fresh (needed s earlier)) (sym (needed-append s rows (joined sections))))))

module _ (s : SceneRecord) (pictures : Pictures) (base : List ℕ) where
  section_puts : (earlier rows : List ℕ) → puts (section_events s pictures base earlier rows) ≡ map (frame_at s pictures base) rows
  unfolding section_events
  section_puts earlier rows =
      puts-append (map (asked_of s) (fresh (needed s earlier) (needed s rows))) _
      ∙
      (ap (λ l. l ++ puts (map (placed_of s pictures base) rows)) (puts-asked s (fresh (needed s earlier) (needed s rows)))
      ∙ puts-placed s pictures base rows)

  section_asks : (earlier rows : List ℕ) → asks (section_events s pictures base earlier rows) ≡ map (file_of s) (fresh (needed s earlier) (needed s rows))
  unfolding section_events
  section_asks earlier rows =
      asks-append (map (asked_of s) (fresh (needed s earlier) (needed s rows))) _
      ∙ (ap (λ l. l ++ asks (map (placed_of s pictures base) rows)) (asks-asked s (fresh (needed s earlier) (needed s rows)))
      ∙ (ap (λ l. map (file_of s) (fresh (needed s earlier) (needed s rows)) ++ l) (asks-placed s pictures base rows) ∙ append-nil _))

  section_lines : (earlier rows : List ℕ) → lines (section_events s pictures base earlier rows) ≡ []
  unfolding section_events
  section_lines earlier rows =
      lines-append (map (asked_of s) (fresh (needed s earlier) (needed s rows))) _
      ∙
      (ap (λ l. l ++ lines (map (placed_of s pictures base) rows)) (lines-asked s (fresh (needed s earlier) (needed s rows)))
      ∙ lines-placed s pictures base rows)

  sections_puts : (sections : List (List ℕ)) (earlier : List ℕ)
      → puts (sections_events s pictures base earlier sections) ≡ map (frame_at s pictures base) (joined sections)
  unfolding sections_events
  sections_puts [] earlier = refl
  sections_puts (rows ∷ sections) earlier =
      puts-append (section_events s pictures base earlier rows) _
      ∙ (ap (λ l. l ++ puts (sections_events s pictures base (earlier ++ rows) sections)) (section_puts earlier rows)
      ∙ (ap (λ l. map (frame_at s pictures base) rows ++ l) (sections_puts sections (earlier ++ rows))
      ∙ sym (map-append (frame_at s pictures base) rows (joined sections))))

  sections_asks : TakenOnce → (sections : List (List ℕ)) (earlier : List ℕ)
      → asks (sections_events s pictures base earlier sections) ≡ map (file_of s) (fresh (needed s earlier) (needed s (joined sections)))
  unfolding sections_events fresh
  sections_asks once [] earlier = refl
  sections_asks once (rows ∷ sections) earlier =
      asks-append (section_events s pictures base earlier rows) _
      ∙ (ap (λ l. l ++ asks (sections_events s pictures base (earlier ++ rows) sections)) (section_asks earlier rows)
      ∙
      (ap (λ l. map (file_of s) (fresh (needed s earlier) (needed s rows)) ++ l)
      (sections_asks once sections (earlier ++ rows) ∙ ap (λ l. map (file_of s) (fresh l (needed s (joined sections)))) (needed-append s earlier rows))
      ∙ (sym (map-append (file_of s) (fresh (needed s earlier) (needed s rows)) _)
      ∙ ap (map (file_of s))
      (sym (once.all (needed s earlier) (needed s rows) (needed s (joined sections)))
      ∙ ap (fresh (needed s earlier)) (sym (needed-append s rows (joined sections)))))))

  sections_lines : (sections : List (List ℕ)) (earlier : List ℕ) → lines (sections_events s pictures base earlier sections) ≡ []
  unfolding sections_events
  sections_lines [] earlier = refl
  sections_lines (rows ∷ sections) earlier =
      lines-append (section_events s pictures base earlier rows) _
      ∙
      (ap (λ l. l ++ lines (sections_events s pictures base (earlier ++ rows) sections)) (section_lines earlier rows)
      ∙ sections_lines sections (earlier ++ rows))

-- ---- the whole

pub scene_through : (files : Files) (name : List ℕ) (s : SceneRecord) (next : SceneRecord → Outcome) → Says files name s
    → loading_scene files name next ≡ after (Ask name ∷ []) (if_faultless (first_fault s) (next s))
unfolding asking
scene_through files name s next says =
    scene_asked files name next
    ∙ ap (after (Ask name ∷ [])) (found_there _ _ _ _ (files name) says.bytes says.there says.short ∙ ap (λ reading. decoded reading next) says.text)

pub joined_sections : (from to : ℕ) → from ≤ to → joined (sections_of from to) ≡ rows_of from to
joined_sections from to ordered =
    ap joined (sections_are from to)
    ∙ (flat_map-map (λ rows. rows) (section_rows from to) (range_with_len 0 (sections_in from to)) ∙ all_rows from to ordered)

abbrev closing_events : PlanRecord → List Event
closing_events p = Line (rendered_line p) ∷ []

-- the drawings of a scene's rows, section by section
loads_from : (files : Files) (s : SceneRecord) (from to n i : ℕ)
    → sections_loads files s (plan_in s from to) i (rows_before from to i) (map (section_rows from to) (range_with_len i n))
    ≡ flat_map (loads_in files s from to) (range_with_len i n)
unfolding sections_loads
loads_from files s from to zero i = refl
loads_from files s from to (suc n) i =
    ap (λ l. loads_in files s from to i ++ l)
    (ap (λ earlier. sections_loads files s (plan_in s from to) (i + 1) earlier (map (section_rows from to) (range_with_len (i + 1) n))) (sym (rows_before_more from to i))
    ∙ loads_from files s from to n (i + 1))

loads_are : (files : Files) (s : SceneRecord) (from to : ℕ)
    → sections_loads files s (plan_in s from to) 0 [] (sections_of from to) ≡ loads files s from to
loads_are files s from to =
    ap (sections_loads files s (plan_in s from to) 0 []) (sections_are from to) ∙ loads_from files s from to (sections_in from to) 0

pub numbers_loaded : TakenOnce → (files : Files) (s : SceneRecord) (from to : ℕ) → from ≤ to
    → numbers (loads files s from to) ≡ each_once (needed s (rows_of from to))
numbers_loaded once files s from to ordered =
    ap numbers (sym (loads_are files s from to))
    ∙ (sections_numbers files s [] (plan_in s from to) once (sections_of from to) 0 [] ∙ ap (λ rows. fresh [] (needed s rows)) (joined_sections from to ordered))

-- what rendering a scene's rows does before its line
pub frames_events : Files → SceneRecord → List ℕ → (from to : ℕ) → List Event
frames_events files s base from to = sections_events s (pictures_of files s) base [] (sections_of from to)

pub rows_walked : (files : Files) (s : SceneRecord) (base : List ℕ) (from to : ℕ) (next : PlanRecord → Outcome) → limit_in s from to ≡ None
    → Walked files s (loads files s from to) (frames_events files s base from to) (rendering_rows files s from to base next) (next (plan_in s from to))
unfolding frames_events
rows_walked files s base from to next none =
    rw (none, ← loads_are files s from to)
    (sections_walked files s base (plan_in s from to) (sections_of from to) 0 [] (next (plan_in s from to)))

pub frames_puts : (files : Files) (s : SceneRecord) (base : List ℕ) (from to : ℕ) → from ≤ to
    → puts (frames_events files s base from to) ≡ frames_of files s base (rows_of from to)
unfolding frames_events
frames_puts files s base from to ordered =
    sections_puts s (pictures_of files s) base (sections_of from to) [] ∙ ap (frames_of files s base) (joined_sections from to ordered)

pub frames_lines : (files : Files) (s : SceneRecord) (base : List ℕ) (from to : ℕ) → lines (frames_events files s base from to) ≡ []
unfolding frames_events
frames_lines files s base from to = sections_lines s (pictures_of files s) base (sections_of from to) []

-- what a render of a scene's rows has done
pub rows_events : Files → SceneRecord → List ℕ → (from to : ℕ) → List Event
rows_events files s base from to = frames_events files s base from to ++ closing_events (plan_in s from to)

pub scene_walked : (files : Files) (s : SceneRecord) (base : List ℕ) (from to : ℕ) → limit_in s from to ≡ None
    → Walked files s (loads files s from to) (rows_events files s base from to) (rendering_scene files from to base s) (ended answers.Ok)
unfolding rows_events closing noting
scene_walked files s base from to none =
    walked_to files s _ (frames_events files s base from to) (closing_events (plan_in s from to)) _ (ended answers.Ok)
    (rows_walked files s base from to closing none)

pub accepted_loads : (files : Files) (s : SceneRecord) (l : List Load) → ((d : ℕ) → is_listed (numbers l) d ≡ true → IsAccepted files s d)
    → All (λ load. load.1 ≤ MOST_SECTION_BYTES) l → All (IsLoaded files s) l
accepted_loads files s [] ok few = All-nil (IsLoaded files s)
accepted_loads files s (load ∷ l) ok few =
    let here : is_listed (numbers (load ∷ l)) load.0 ≡ true = grind (arith, nat_tests) in
    All-cons (IsLoaded files s) load l
    (record { accepted = ok load.0 here; fits = All-head (λ (x : Load). x.1 ≤ MOST_SECTION_BYTES) load l few })
    (accepted_loads files s l (λ d listed. ok d (ap (λ t. (load.0 == d) || t) listed ∙ or-true _)) (All-tail (λ (x : Load). x.1 ≤ MOST_SECTION_BYTES) load l few))

module _ (files : Files) (name base : List ℕ) (s : SceneRecord) (from to : ℕ) (says : Says files name s) (good : first_fault s ≡ None) where
  pub render_is : rendering files name from to base ≡ after (Ask name ∷ []) (rendering_scene files from to base s)
  unfolding rendering
  render_is =
      scene_through files name s (rendering_scene files from to base) says
      ∙ ap (λ found. after (Ask name ∷ []) (if_faultless found (rendering_scene files from to base s))) good

module _ (once : TakenOnce) (files : Files) (base : List ℕ) (s : SceneRecord) (from to : ℕ) (ordered : from ≤ to)
    (within : AreWithin files s from to) (ok : AreAccepted files s (rows_of from to)) where
  all_loaded : All (IsLoaded files s) (loads files s from to)
  all_loaded =
      accepted_loads files s (loads files s from to)
      (λ d listed. ok d (sym (fresh_listed once [] (needed s (rows_of from to)) d) ∙ (ap (λ l. is_listed l d) (sym (numbers_loaded once files s from to ordered)) ∙ listed)))
      within.sections

  -- all of them are loaded, and what follows is done
  pub rows_through : (next : PlanRecord → Outcome)
      → rendering_rows files s from to base next ≡ after (frames_events files s base from to) (next (plan_in s from to))
  rows_through next = goes_through (rows_walked files s base from to next within.demand)
    where
      goes_through : Walked files s (loads files s from to) (frames_events files s base from to) (rendering_rows files s from to base next) (next (plan_in s from to))
          → rendering_rows files s from to base next ≡ after (frames_events files s base from to) (next (plan_in s from to))
      goes_through (inl (all, same)) = same
      goes_through (inr stop) =
          absurd (no_cause files s stop.load stop.status
          (loaded_at files s stop.before stop.load stop.behind (subst (All (IsLoaded files s)) stop.place all_loaded)) stop.cause)

module _ (once : TakenOnce) (files : Files) (name base : List ℕ) (s : SceneRecord) (from to : ℕ) (ordered : from ≤ to) (says : Says files name s)
    (good : first_fault s ≡ None) (within : AreWithin files s from to) (ok : AreAccepted files s (rows_of from to)) where
  rendered : rendering files name from to base ≡ after (Ask name ∷ (frames_events files s base from to ++ closing_events (plan_in s from to))) (ended answers.Ok)
  unfolding closing noting
  rendered =
      render_is files name base s from to says good
      ∙ (ap (after (Ask name ∷ [])) (rows_through once files base s from to ordered within ok closing ∙ after-after (frames_events files s base from to) (closing_events (plan_in s from to)) (ended answers.Ok))
      ∙ after-after (Ask name ∷ []) (frames_events files s base from to ++ closing_events (plan_in s from to)) (ended answers.Ok))

  pub rendered_ends : (rendering files name from to base).status ≡ answers.Ok
  rendered_ends = ap (λ o. o.status) rendered

  work_is : (rendering files name from to base).work ≡ Ask name ∷ (frames_events files s base from to ++ closing_events (plan_in s from to))
  work_is = ap (λ o. o.work) rendered ∙ append-nil _

  pub rendered_asks : asks (rendering files name from to base).work ≡ name ∷ map (file_of s) (each_once (needed s (rows_of from to)))
  unfolding frames_events
  rendered_asks =
      ap asks work_is ∙ ap (λ l. name ∷ l) (asks-append (frames_events files s base from to) (closing_events (plan_in s from to))
      ∙
      (append-nil _
      ∙ (sections_asks s (pictures_of files s) base once (sections_of from to) [] ∙ ap (λ rows. map (file_of s) (fresh [] (needed s rows))) (joined_sections from to ordered))))

  pub rendered_puts : puts (rendering files name from to base).work ≡ frames_of files s base (rows_of from to)
  rendered_puts =
      ap puts work_is ∙ (puts-append (frames_events files s base from to) (closing_events (plan_in s from to))
      ∙ (append-nil _ ∙ frames_puts files s base from to ordered))

  pub rendered_lines : lines (rendering files name from to base).work ≡ rendered_line (plan_in s from to) ++ 10 ∷ []
  rendered_lines =
      ap lines work_is ∙ (lines-append (frames_events files s base from to) (closing_events (plan_in s from to))
      ∙ ap (λ l. l ++ lines (closing_events (plan_in s from to))) (frames_lines files s base from to))

-- ---- a render that ends otherwise

module _ (files : Files) (name base : List ℕ) (s : SceneRecord) (from to : ℕ) (says : Says files name s) (good : first_fault s ≡ None) where
  abbrev answer : Status
  answer = (rendering files name from to base).status

  abbrev Walk : Type 0
  Walk = Walked files s (loads files s from to) (rows_events files s base from to) (rendering_scene files from to base s) (ended answers.Ok)

  scene_ends : answer ≡ (rendering_scene files from to base s).status
  scene_ends = ap (λ o. o.status) (render_is files name base s from to says good)

  within_ends : (limit : Option Limit) (next : Outcome) → (within_limits limit next).status ≡ answers.Ok → limit ≡ None
  within_ends None next ends = refl
  within_ends (Some limit) next ends = absurd cc

  ended_whole : Walk → (rendering_scene files from to base s).status ≡ answers.Ok → All (IsLoaded files s) (loads files s from to)
  ended_whole (inl (all, same)) ends = all
  ended_whole (inr stop) ends = absurd (ends_stopped stop.load stop.status (sym stop.ends ∙ ends) stop.cause)
    where
      ends_stopped : (load : Load) (status : Status) → status ≡ answers.Ok → Cause files s load status → ⊥
      ends_stopped load status ends (inl (code, is, refused)) = let same : answers.Level load.0 code ≡ answers.Ok = sym is ∙ ends in absurd cc
      ends_stopped load status ends (inr (is, accepted, past)) =
          let same : answers.Limit what.SectionBytes MOST_SECTION_BYTES ≡ answers.Ok = sym is ∙ ends in absurd cc

  pub rendered_within : answer ≡ answers.Ok → AreWithin files s from to
  rendered_within ends =
      let scene = sym scene_ends ∙ ends in
      let none = within_ends (limit_in s from to) _ scene in
      let all = ended_whole (scene_walked files s base from to none) scene in
      record { demand = none; sections = All-weaker (IsLoaded files s) (λ (x : Load). x.1 ≤ MOST_SECTION_BYTES) (λ x ok. ok.fits) (loads files s from to) all }

  loaded_accepted : (l : List Load) (d : ℕ) → All (IsLoaded files s) l → is_listed (numbers l) d ≡ true → IsAccepted files s d
  loaded_accepted [] d all listed = absurd cc
  loaded_accepted (load ∷ l) d all listed =
      elim (cases_eq load.0 d) [
        | inl same ↦ subst (IsAccepted files s) same (All-head (IsLoaded files s) load l all).accepted
        | inr apart ↦
            let other : (load.0 == d) ≡ false = ne_eqb load.0 d apart in
            loaded_accepted l d (All-tail (IsLoaded files s) load l all) (ap (λ t. t || is_listed (numbers l) d) (sym other) ∙ listed)
      ]

  pub rendered_accepted : TakenOnce → from ≤ to → answer ≡ answers.Ok → AreAccepted files s (rows_of from to)
  rendered_accepted once ordered ends d listed =
      let scene = sym scene_ends ∙ ends in
      let none = within_ends (limit_in s from to) _ scene in
      let all = ended_whole (scene_walked files s base from to none) scene in
      loaded_accepted (loads files s from to) d all
      (ap (λ l. is_listed l d) (numbers_loaded once files s from to ordered) ∙ (fresh_listed once [] (needed s (rows_of from to)) d ∙ listed))

  module _ (none : limit_in s from to ≡ None) where
    -- a drawing at which rows stop, and for which they do not go on, is the one that is told
    pub stopped_at : (load : Load) → StopsAt files s from to load → (IsLoaded files s load → ⊥)
        → (status : Status) × Cause files s load status × (answer ≡ status)
    stopped_at load stops never = stopped_by (scene_walked files s base from to none)
      where
        stopped_by : Walk → (status : Status) × Cause files s load status × (answer ≡ status)
        stopped_by (inl (all, same)) =
            absurd (never (loaded_at files s stops.before load stops.behind (subst (All (IsLoaded files s)) stops.place all)))
        stopped_by (inr stop) =
            let not_stop : IsLoaded files s stop.load → ⊥ = λ ok. no_cause files s stop.load stop.status ok stop.cause in
            let same = one_first files s stops.before stop.before stops.behind stop.behind load stop.load (sym stops.place ∙ stop.place) stops.loaded stop.loaded never not_stop in
            (stop.status, subst (λ (x : Load). Cause files s x stop.status) (sym same) stop.cause, scene_ends ∙ stop.ends)

-- a file says one scene, which has no fault where it was found to have none
pub says_once : (files : Files) (name : List ℕ) (t s : SceneRecord) → Says files name t → Says files name s → first_fault t ≡ None → first_fault s ≡ None
says_once files name t s first then good =
    let bytes : first.bytes ≡ then.bytes = cc (first.there, then.there) in
    let same : t ≡ s = cc (first.text, then.text, bytes) in
    ap first_fault (sym same) ∙ good
