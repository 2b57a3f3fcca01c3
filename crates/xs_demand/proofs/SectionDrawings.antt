-- The drawings that a section is the first to need
use Rattle.std.proofs.Common.{◌≡◌, ℕ, ◌+◌, ◌*◌, ◌<◌, ◌==◌, Bool, not, ◌&&◌, nat_lt, Option, Some, List, [], ◌++◌, length, take, drop, filter, filter_map, slice_get, sym, ap, ap₂, ◌∙◌, arith}
use Rattle.std.specs.List.{AllZip, range_with_len}
use Rattle.std.proofs.Math.Seq.{take-add}
use Rattle.std.proofs.lemmas.Bool.{lt-ltb, le-ltb}
use Rattle.std.proofs.lemmas.List.{append-nil, append_assoc, length-append, take-append-drop}
use Rattle.std.proofs.lemmas.Option.{get_or_from_slice_get}
use Rattle.std.proofs.lemmas.Slice.Zip.{AllZip-long}
use Rattle.xs_base.specs.declared.limits.TheConstants.{SECTION_ROWS}
use Rattle.xs_base.specs.Once.{fresh}
use Rattle.xs_pixel.specs.Channels.{Channels}
use Rattle.xs_rect.specs.Area.{Area}
use Rattle.xs_meaning.specs.Expressions.{Expr, Clear, Leaf, Tinted, Card, Pair, Blur}
use Rattle.xs_plan.specs.declared.job.Job.{Job}
use Rattle.xs_plan.specs.Record.{Entry, PlanRecord, no_entry, entry_at, drawing_of}
use Rattle.xs_plan.specs.Sections.{first_section}
use Rattle.xs_plan.specs.Needed.{drawings_where, needs, needs_before, new_drawings}
use Rattle.xs_demand.specs.Aliases.{Alias, visit_rows, aliases_of}
use Rattle.xs_demand.specs.Images.{drawings_in}
use Rattle.xs_demand.specs.Shown.{ShowsJob, ShowsAlias, ShowsRoots, tints_shown}
use Rattle.xs_demand.proofs.Drawn.{TakenOnce, own_drawing, own_drawings, fresh-rows}
use Rattle.xs_demand.proofs.Picked.{picked, picked-append, picked-all, picked-none}
use Rattle.xs_demand.proofs.PlanImages.{all_zip-at}
use Rattle.xs_demand.proofs.PlaceLemmas.{place-append, place-behind}
use Rattle.xs_demand.proofs.SectionAliases.{section_before, section_is}
use Rattle.xs_demand.proofs.VisitLemmas.{visits_rows, visit_rows-append}

-- a job needs the drawing that its expression shows
drawing_of-shown : (tints : List (List Channels)) (e : Expr) (j : Job) → ShowsJob tints e j → drawing_of j ≡ own_drawing e
drawing_of-shown tints Clear j shows = ap drawing_of shows
drawing_of-shown tints (Leaf d at) j shows = ap drawing_of shows
drawing_of-shown tints (Tinted d at tint) j shows = ap drawing_of shows.1
drawing_of-shown tints (Card pixel) j shows = ap drawing_of shows
drawing_of-shown tints (Pair op a b) j shows = ap drawing_of shows
drawing_of-shown tints (Blur n a) j shows = ap drawing_of shows

abbrev drawing_at : PlanRecord → ℕ → Option ℕ
drawing_at p k = drawing_of (entry_at p.entries k).job

abbrev own : Alias → Option ℕ
own x = own_drawing x.expr

drawing_at-shown :
    (l : List Alias) (tints : List (List Channels)) (p : PlanRecord) → AllZip (ShowsAlias l tints) l p.entries
    → (k : ℕ) (x : Alias) → slice_get l k ≡ Some x → drawing_at p k ≡ own x
drawing_at-shown l tints p entries k x at =
    let there = all_zip-at (ShowsAlias l tints) l p.entries entries k x at in
    ap (λ (e : Entry). drawing_of e.job) (get_or_from_slice_get p.entries k there.0 no_entry there.1)
    ∙ drawing_of-shown tints x.expr there.0.job there.2.job

-- a list of aliases in three parts: before a section, of a section, and after it
module _ (p : PlanRecord) (l before of after : List Alias) (tints : List (List Channels)) (s : ℕ)
    (parts : l ≡ before ++ (of ++ after)) (entries : AllZip (ShowsAlias l tints) l p.entries)
    (starts : (k : ℕ) → k < length l → nat_lt (first_section p k) s ≡ nat_lt k (length before))
    (ends : (k : ℕ) → k < length l → nat_lt (first_section p k) (s + 1) ≡ nat_lt k (length (before ++ of))) where
  long : length l ≡ length before + (length of + length after)
  long = ap length parts ∙ length-append before (of ++ after) ∙ ap (λ n. length before + n) (length-append of after)

  shows : (k : ℕ) (x : Alias) → slice_get (before ++ (of ++ after)) k ≡ Some x → drawing_at p k ≡ own x
  shows k x at = drawing_at-shown l tints p entries k x (ap (λ xs. slice_get xs k) parts ∙ at)

  in_parts :
      (passes : ℕ → Bool)
      → drawings_where p passes
      ≡ picked (drawing_at p) (λ k. passes (first_section p k)) own 0 before
      ++ (picked (drawing_at p) (λ k. passes (first_section p k)) own (0 + length before) of
      ++ picked (drawing_at p) (λ k. passes (first_section p k)) own (0 + length before + length of) after)
  in_parts passes =
      let test = λ (k : ℕ). passes (first_section p k) in
      ap (λ n. filter_map (drawing_at p) (filter test (range_with_len 0 n)))
      (AllZip-long (ShowsAlias l tints) l p.entries entries ∙ ap length parts)
      ∙ picked-append (drawing_at p) test own 0 before (of ++ after)
      ∙ ap (λ ds. picked (drawing_at p) test own 0 before ++ ds) (picked-append (drawing_at p) test own (0 + length before) of after)

  needs_before-is : needs_before p s ≡ own_drawings before
  needs_before-is =
      let test = λ (k : ℕ). nat_lt (first_section p k) s in
      in_parts (λ t. nat_lt t s)
      ∙ ap₂ (λ xs ys. xs ++ ys)
      (picked-all (drawing_at p) test own 0 before
      (λ i x at. shows (0 + i) x (slice_get-here before (of ++ after) i x at))
      (λ k from to. starts k (omega (arith, long)) ∙ lt-ltb k (length before) (omega arith)))
      (ap₂ (λ xs ys. xs ++ ys)
      (picked-none (drawing_at p) test own (0 + length before) of
      (λ k from to. starts k (omega (arith, long)) ∙ le-ltb k (length before) (omega arith)))
      (picked-none (drawing_at p) test own (0 + length before + length of) after
      (λ k from to. starts k (omega (arith, long)) ∙ le-ltb k (length before) (omega arith))))
      ∙ append-nil (own_drawings before)
    where
      slice_get-here : (xs ys : List Alias) (i : ℕ) (x : Alias) → slice_get xs i ≡ Some x → slice_get (xs ++ ys) (0 + i) ≡ Some x
      slice_get-here xs ys i x at =
          ap (slice_get (xs ++ ys)) (let sum : 0 + i ≡ i = omega arith in sum) ∙ place-append xs ys i x at

  -- the test of a section, by the tests of both ends
  in_section : (k : ℕ) → k < length l → (first_section p k == s) ≡ (not (nat_lt k (length before)) && nat_lt k (length (before ++ of)))
  in_section k lt = section_is (first_section p k) s ∙ ap₂ (λ a b. not a && b) (starts k lt) (ends k lt)

  needs-is : needs p s ≡ own_drawings of
  needs-is =
      let test = λ (k : ℕ). first_section p k == s in
      in_parts (λ t. t == s)
      ∙ ap₂ (λ xs ys. xs ++ ys)
      (picked-none (drawing_at p) test own 0 before
      (λ k from to.
      in_section k (omega (arith, long))
      ∙ ap (λ a. not a && nat_lt k (length (before ++ of))) (lt-ltb k (length before) (omega arith))))
      (ap₂ (λ xs ys. xs ++ ys)
      (picked-all (drawing_at p) test own (0 + length before) of
      (λ i x at. shows (0 + length before + i) x (slice_get-there before of after i x at))
      (λ k from to.
      in_section k (omega (arith, long))
      ∙ ap₂ (λ a b. not a && b) (le-ltb k (length before) (omega arith))
      (lt-ltb k (length (before ++ of)) (omega (arith, length-append before of)))))
      (picked-none (drawing_at p) test own (0 + length before + length of) after
      (λ k from to.
      in_section k (omega (arith, long))
      ∙ ap₂ (λ a b. not a && b) (le-ltb k (length before) (omega arith))
      (le-ltb k (length (before ++ of)) (omega (arith, length-append before of))))))
      ∙ append-nil (own_drawings of)
    where
      slice_get-there :
          (xs ys zs : List Alias) (i : ℕ) (x : Alias) → slice_get ys i ≡ Some x
          → slice_get (xs ++ (ys ++ zs)) (0 + length xs + i) ≡ Some x
      slice_get-there xs ys zs i x at =
          ap (slice_get (xs ++ (ys ++ zs))) (let sum : 0 + length xs + i ≡ length xs + i = omega arith in sum)
          ∙ place-behind xs (ys ++ zs) i
          ∙ place-append ys zs i x at

pub needed-is :
    TakenOnce → (tiles : List Area) (roots : List Expr) (p : PlanRecord) → ShowsRoots tiles roots p → 0 < length tiles → (s : ℕ)
    → new_drawings p s
    ≡ fresh (drawings_in (take (SECTION_ROWS * s) roots)) (drawings_in (take SECTION_ROWS (drop (SECTION_ROWS * s) roots)))
unfolding new_drawings aliases_of
needed-is once tiles roots p shows some s =
    let start = SECTION_ROWS * s in
    let earlier = take start roots in
    let rows = take SECTION_ROWS (drop start roots) in
    let later = drop SECTION_ROWS (drop start roots) in
    let l = visit_rows tiles roots [] in
    let before = visit_rows tiles earlier [] in
    let of = visits_rows tiles rows before in
    let after = visits_rows tiles later (visit_rows tiles rows before) in
    let is : l ≡ before ++ (of.added ++ after.added) =
    ap (λ es. visit_rows tiles es [])
    (sym (take-append-drop start roots) ∙ ap (λ es. earlier ++ es) (sym (take-append-drop SECTION_ROWS (drop start roots))))
    ∙ visit_rows-append tiles earlier (rows ++ later) []
    ∙ visit_rows-append tiles rows later before
    ∙ after.is
    ∙ ap (λ xs. xs ++ after.added) of.is
    ∙ append_assoc before of.added after.added in
    let section_end : visit_rows tiles (take (SECTION_ROWS * (s + 1)) roots) [] ≡ before ++ of.added =
    ap (λ n. visit_rows tiles (take n roots) []) (let sum : SECTION_ROWS * (s + 1) ≡ start + SECTION_ROWS = omega arith in sum)
    ∙ ap (λ es. visit_rows tiles es []) (take-add start SECTION_ROWS roots)
    ∙ visit_rows-append tiles earlier rows []
    ∙ of.is in
    let starts : (k : ℕ) → k < length l → nat_lt (first_section p k) s ≡ nat_lt k (length before) =
    section_before tiles roots p shows.ends s in
    let ends : (k : ℕ) → k < length l → nat_lt (first_section p k) (s + 1) ≡ nat_lt k (length (before ++ of.added)) =
    λ k lt. section_before tiles roots p shows.ends (s + 1) k lt ∙ ap (λ xs. nat_lt k (length xs)) section_end in
    ap₂ fresh
    (needs_before-is p l before of.added after.added (tints_shown p) s is shows.entries starts ends)
    (needs-is p l before of.added after.added (tints_shown p) s is shows.entries starts ends)
    ∙ fresh-rows once tiles earlier rows of.added some of.is
