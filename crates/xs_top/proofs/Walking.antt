-- How far the drawings of rows are loaded: all of them, or up to the first one that is refused or has too many bytes.
use Rattle.std.proofs.Common.{◌≡◌, ℕ, ◌+◌, ◌<◌, ◌≤◌, ◌⊎◌, inl, inr, Bool, true, false, List, [], ◌∷◌, ◌++◌, All, map, nat_le, Option, Some, None, refl, sym, ap, ◌∙◌, subst, append_assoc, arith}
use Rattle.std.proofs.lemmas.Bool.Decides.{nat_tests}
use Rattle.std.proofs.lemmas.List.{map-append}
use Rattle.std.proofs.lemmas.List.Elements.{All-nil, All-cons, All-head, All-tail, All-append}
use Rattle.xs_levels.specs.Films.{Files}
use Rattle.xs_dryrun.specs.declared.limits.What.TheVariants as what
use Rattle.xs_rawfile.specs.declared.fault.LevelCode.{LevelCode}
use Rattle.xs_scene.specs.Records.{SceneRecord}
use Rattle.xs_top.specs.declared.limits.TheConstants.{MOST_SECTION_BYTES}
use Rattle.xs_top.specs.declared.status.Status.{Status}
use Rattle.xs_top.specs.declared.status.Status.TheVariants as answers
use Rattle.xs_top.specs.Drawings.{file_of, fault_of, bytes_of}
use Rattle.xs_top.specs.Finished.{IsAccepted}
use Rattle.xs_top.specs.Loads.{loads_over, IsLoaded}
use Rattle.xs_top.specs.Outcome.{accepted, loading}
use Rattle.xs_top.specs.Refused.{IsRefused}
use Rattle.xs_top.specs.Trace.{Event, Ask, asks, Outcome, ended, after}
use Rattle.xs_top.proofs.Drawn.{judged, accepted_none, refused_fault, loading_none, loading_first, asked_of}
use Rattle.xs_top.proofs.Parts.{after-after, asks-append}
use Rattle.xs_top.proofs.SectionLoads.{counted_within, counted_past}

abbrev pub Load : Type 0
Load = ℕ × ℕ

abbrev pub numbers : List Load → List ℕ
numbers loads = map (λ (load : Load). load.0) loads

-- why rows stop at a drawing, and with which answer
abbrev pub Cause : Files → SceneRecord → Load → Status → Type 0
Cause files s load status =
    ((code : LevelCode) × (status ≡ answers.Level load.0 code) × IsRefused files s load.0 code)
    ⊎ ((status ≡ answers.Limit what.SectionBytes MOST_SECTION_BYTES) × IsAccepted files s load.0 × (MOST_SECTION_BYTES < load.1))

-- of some drawings the first ones are loaded, and at the next one the run ends
pub record Stop (files : Files) (s : SceneRecord) (loads : List Load) (o : Outcome) : Type 0 where
  pub before : List Load
  pub behind : List Load
  pub load : Load
  pub place : loads ≡ before ++ load ∷ behind
  pub loaded : All (IsLoaded files s) before
  pub status : Status
  pub cause : Cause files s load status
  pub ends : o.status ≡ status
  pub asked : asks o.work ≡ map (file_of s) (numbers before ++ load.0 ∷ [])

-- all are loaded with these events, and then what follows is done; or the run ends at one of them
abbrev pub Walked : Files → SceneRecord → List Load → List Event → Outcome → Outcome → Type 0
Walked files s loads events o next = (All (IsLoaded files s) loads × (o ≡ after events next)) ⊎ Stop files s loads o

module _ (files : Files) (s : SceneRecord) where
  -- ---- a drawing, and then those behind it

  abbrev Behind : ℕ → ℕ → List Load → List Event → Option LevelCode → Outcome → Outcome → Type 0
  Behind d bytes loads events fault rest next =
      Walked files s ((d, bytes) ∷ loads) (asked_of s d ∷ events) (after (Ask (file_of s d) ∷ []) (accepted d fault bytes rest)) next

  more_loaded : (d bytes : ℕ) (loads : List Load) (events : List Event) (o rest next : Outcome) → IsLoaded files s (d, bytes) → o ≡ rest
      → Walked files s loads events rest next → Walked files s ((d, bytes) ∷ loads) (asked_of s d ∷ events) (after (Ask (file_of s d) ∷ []) o) next
  more_loaded d bytes loads events o rest next ok same (inl (all, through)) =
      inl (All-cons (IsLoaded files s) (d, bytes) loads ok all, ap (after (Ask (file_of s d) ∷ [])) (same ∙ through) ∙ after-after (Ask (file_of s d) ∷ []) events next)
  more_loaded d bytes loads events o rest next ok same (inr stop) = inr (record {
    before = (d, bytes) ∷ stop.before;
    behind = stop.behind;
    load = stop.load;
    place = ap (λ l. (d, bytes) ∷ l) stop.place;
    loaded = All-cons (IsLoaded files s) (d, bytes) stop.before ok stop.loaded;
    status = stop.status;
    cause = stop.cause;
    ends = ap (λ p. p.status) same ∙ stop.ends;
    asked = ap (λ l. file_of s d ∷ l) (ap (λ p. asks p.work) same ∙ stop.asked);
  })

  stops_here : (d bytes : ℕ) (loads : List Load) (o : Outcome) (status : Status) → o ≡ ended status → Cause files s (d, bytes) status
      → Stop files s ((d, bytes) ∷ loads) (after (Ask (file_of s d) ∷ []) o)
  stops_here d bytes loads o status same cause = record {
    before = [];
    behind = loads;
    load = (d, bytes);
    place = refl;
    loaded = All-nil (IsLoaded files s);
    status = status;
    cause = cause;
    ends = ap (λ p. p.status) same;
    asked = ap (λ p. file_of s d ∷ asks p.work) same;
  }

  one_walked : (d bytes : ℕ) (loads : List Load) (events : List Event) (rest next : Outcome) (fault : Option LevelCode) → fault_of files s d ≡ fault
      → (t : Bool) → nat_le bytes MOST_SECTION_BYTES ≡ t → Walked files s loads events rest next → Behind d bytes loads events fault rest next
  one_walked d bytes loads events rest next (Some code) is t fits later =
      inr (stops_here d bytes loads (accepted d (Some code) bytes rest) (answers.Level d code) refl (inl (code, refl, judged files s d (Some code) is)))
  one_walked d bytes loads events rest next None is true fits later =
      let few : bytes ≤ MOST_SECTION_BYTES = grind (arith, nat_tests) in
      more_loaded d bytes loads events (accepted d None bytes rest) rest next (record { accepted = judged files s d None is; fits = few })
      (counted_within bytes rest few) later
  one_walked d bytes loads events rest next None is false fits later =
      let past : MOST_SECTION_BYTES < bytes = grind (arith, nat_tests) in
      inr (stops_here d bytes loads (accepted d None bytes rest) _ (counted_past bytes rest past) (inr (refl, judged files s d None is, past)))

  pub loading_walked : (ds : List ℕ) (over : ℕ) (next : Outcome)
      → Walked files s (loads_over files s over ds) (map (asked_of s) ds) (loading files s over ds next) next
  loading_walked [] over next = inl (All-nil (IsLoaded files s), loading_none files s over next)
  loading_walked (d ∷ ds) over next =
      let bytes = over + bytes_of files s d in
      rw (loading_first files s over d ds next)
      (one_walked d bytes (loads_over files s bytes ds) (map (asked_of s) ds) (loading files s bytes ds next) next (fault_of files s d) refl
      (nat_le bytes MOST_SECTION_BYTES) refl (loading_walked ds bytes next))

  pub numbers_over : (ds : List ℕ) (over : ℕ) → numbers (loads_over files s over ds) ≡ ds
  numbers_over [] over = refl
  numbers_over (d ∷ ds) over = ap (λ l. d ∷ l) (numbers_over ds (over + bytes_of files s d))

  -- ---- some drawings, and then others

  pub stop_front : (first then : List Load) (o : Outcome) → Stop files s first o → Stop files s (first ++ then) o
  stop_front first then o stop = record {
    before = stop.before;
    behind = stop.behind ++ then;
    load = stop.load;
    place = ap (λ l. l ++ then) stop.place ∙ append_assoc stop.before (stop.load ∷ stop.behind) then;
    loaded = stop.loaded;
    status = stop.status;
    cause = stop.cause;
    ends = stop.ends;
    asked = stop.asked;
  }

  stop_behind : (first then : List Load) (events : List Event) (o mid : Outcome) → All (IsLoaded files s) first → o ≡ after events mid
      → asks events ≡ map (file_of s) (numbers first) → Stop files s then mid → Stop files s (first ++ then) o
  stop_behind first then events o mid all same tell stop = record {
    before = first ++ stop.before;
    behind = stop.behind;
    load = stop.load;
    place = ap (λ l. first ++ l) stop.place ∙ sym (append_assoc first stop.before (stop.load ∷ stop.behind));
    loaded = All-append (IsLoaded files s) first stop.before all stop.loaded;
    status = stop.status;
    cause = stop.cause;
    ends = ap (λ p. p.status) same ∙ stop.ends;
    asked =
        ap (λ p. asks p.work) same
        ∙ (asks-append events mid.work
        ∙ (ap (λ l. l ++ asks mid.work) tell
        ∙ (ap (λ l. map (file_of s) (numbers first) ++ l) stop.asked
        ∙ (sym (map-append (file_of s) (numbers first) (numbers stop.before ++ stop.load.0 ∷ []))
        ∙ ap (map (file_of s)) (sym (append_assoc (numbers first) (numbers stop.before) (stop.load.0 ∷ []))
        ∙ ap (λ l. l ++ stop.load.0 ∷ []) (sym (map-append (λ (load : Load). load.0) first stop.before)))))));
  }

  pub walked_then : (first then : List Load) (events more : List Event) (o mid next : Outcome) → asks events ≡ map (file_of s) (numbers first)
      → Walked files s first events o mid → Walked files s then more mid next → Walked files s (first ++ then) (events ++ more) o next
  walked_then first then events more o mid next tell (inl (all, same)) (inl (rest, through)) =
      inl (All-append (IsLoaded files s) first then all rest, same ∙ (ap (after events) through ∙ after-after events more next))
  walked_then first then events more o mid next tell (inl (all, same)) (inr stop) = inr (stop_behind first then events o mid all same tell stop)
  walked_then first then events more o mid next tell (inr stop) later = inr (stop_front first then o stop)

  -- some drawings, and then events without any
  pub walked_to : (loads : List Load) (events more : List Event) (o next : Outcome) → Walked files s loads events o (after more next)
      → Walked files s loads (events ++ more) o next
  walked_to loads events more o next (inl (all, same)) = inl (all, same ∙ after-after events more next)
  walked_to loads events more o next (inr stop) = inr stop

  -- ---- a drawing that is loaded has no cause to stop at it

  pub loaded_at : (before : List Load) (load : Load) (behind : List Load) → All (IsLoaded files s) (before ++ load ∷ behind) → IsLoaded files s load
  loaded_at [] load behind all = All-head (IsLoaded files s) load behind all
  loaded_at (x ∷ before) load behind all = loaded_at before load behind (All-tail (IsLoaded files s) x (before ++ load ∷ behind) all)

  pub refused_once : (d : ℕ) (code : LevelCode) → IsRefused files s d code → IsAccepted files s d → ⊥
  refused_once d code refused ok =
      let same : Some code ≡ None = sym (refused_fault files s d code refused) ∙ accepted_none files s d ok in absurd cc

  pub one_code : (d : ℕ) (code other : LevelCode) → IsRefused files s d code → IsRefused files s d other → code ≡ other
  one_code d code other refused also =
      let same : Some code ≡ Some other = sym (refused_fault files s d code refused) ∙ refused_fault files s d other also in cc

  pub no_cause : (load : Load) (status : Status) → IsLoaded files s load → Cause files s load status → ⊥
  no_cause load status ok (inl (code, is, refused)) = refused_once load.0 code refused ok.accepted
  no_cause load status ok (inr (is, accepted, past)) = let few = ok.fits in absurd (omega (arith, few, past))

  -- the first drawing that is not loaded is one
  pub one_first : (before other behind rest : List Load) (x y : Load) → before ++ x ∷ behind ≡ other ++ y ∷ rest → All (IsLoaded files s) before
      → All (IsLoaded files s) other → (IsLoaded files s x → ⊥) → (IsLoaded files s y → ⊥) → x ≡ y
  one_first [] [] behind rest x y same all also not_x not_y = cc
  one_first [] (z ∷ other) behind rest x y same all also not_x not_y =
      let here : z ≡ x = cc in absurd (not_x (subst (IsLoaded files s) here (All-head (IsLoaded files s) z other also)))
  one_first (z ∷ before) [] behind rest x y same all also not_x not_y =
      let here : z ≡ y = cc in absurd (not_y (subst (IsLoaded files s) here (All-head (IsLoaded files s) z before all)))
  one_first (z ∷ before) (w ∷ other) behind rest x y same all also not_x not_y =
      let tail : before ++ x ∷ behind ≡ other ++ y ∷ rest = cc in
      one_first before other behind rest x y tail (All-tail (IsLoaded files s) z before all) (All-tail (IsLoaded files s) w other also) not_x not_y
