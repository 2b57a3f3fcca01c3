-- Lemmas on plans that are being built
use Rattle.std.proofs.Common.{◌≡◌, ◌<◌, ◌≤◌, ◌+◌, ◌/◌, ◌%◌, ◌^◌, ℕ, zero, suc, Bool, cond, eqb, List, [], ◌∷◌, ◌++◌, Some, Contains, length, take, slice_get, slice_index, refl, sym, ap, ◌∙◌, subst, ⊎_elim, arith}
use Rattle.std.proofs.lemmas.Bool.{cases_lt, cases_eq, eq-eqb, ne_eqb}
use Rattle.std.proofs.lemmas.List.{get_or_append_left, get_or_push, get_or_past, length_push, take-append-le, take_all}
use Rattle.std.proofs.lemmas.Option.{slice_get_within, get_or_from_slice_get}
use Rattle.xs_base.specs.declared.limits.TheConstants.{SECTION_ROWS}
use Rattle.xs_pixel.specs.Channels.{Channels}
use Rattle.xs_plan.specs.declared.limits.TheConstants.{MOST_BUILT}
use Rattle.xs_plan.specs.declared.job.Job.{Job}
use Rattle.xs_plan.specs.declared.job.Job.TheVariants as job
use Rattle.xs_plan.specs.Record.{Entry, entry_at, no_entry}
use Rattle.xs_plan.specs.Sections.{first_section}
use Rattle.xs_plan.specs.Valid.{IsEntry, IsJob, AreEnds, Leads, Reaches}
use Rattle.xs_plan.specs.Draft.{Draft, with_entry, with_tint, with_root, next_tile, LacksRoots, ReachesNew}
use Rattle.xs_plan.specs.Kept.{IsDraft, IsRootAt, IsReached}
use Rattle.xs_plan.proofs.ReadLemmas.{slice_get-append_left, entry_at-push_left}
use Rattle.xs_plan.proofs.RowLemmas.{place_next, ended_by, ended_by-all, ended_by-push, AreEnds-more, AreEnds-push}

-- ---- reaching

Contains-more :
    (entries : List Entry) (e : Entry) (k input : ℕ)
    → Contains (entry_at entries k).inputs input → Contains (entry_at (entries ++ e ∷ []) k).inputs input
Contains-more entries e k input has =
    ⊎_elim
    (λ old. subst (λ (x : Entry). Contains x.inputs input) (sym (entry_at-push_left entries e k old)) has)
    (λ past.
    let none = subst (λ (x : Entry). Contains x.inputs input) (get_or_past entries k no_entry past) has in
    absurd (omega (arith, none.1)))
    (cases_lt k (length entries))

Leads-more :
    (entries : List Entry) (e : Entry) (reads k last : ℕ) → Leads entries reads k last → Leads (entries ++ e ∷ []) reads k last
unfolding Leads
Leads-more entries e zero k last way = way
Leads-more entries e (suc reads) k last way =
    (way.0, Contains-more entries e k way.0 way.1, Leads-more entries e reads way.0 last way.2)

pub Reaches-more : (entries : List Entry) (e : Entry) (k last : ℕ) → Reaches entries k last → Reaches (entries ++ e ∷ []) k last
Reaches-more entries e k last reaches =
    record { reads = reaches.reads; way = Leads-more entries e reaches.reads k last reaches.way }

-- ---- an alias is added

pub IsDraft-add :
    {d : Draft} {firsts : List ℕ} → IsDraft d firsts → (e : Entry) → LacksRoots d
    → IsEntry (length d.plan.tints) d.plan.entries e → length d.plan.entries < MOST_BUILT
    → IsDraft (with_entry d e) (firsts ++ length d.plan.ends / SECTION_ROWS ∷ [])
IsDraft-add {d} {firsts} draft e lacks valid room =
    record {
      few_tiles = draft.few_tiles;
      few_rows = draft.few_rows;
      few_aliases = omega (arith, longer);
      few_tints = draft.few_tints;
      entries = λ k x at. ⊎_elim (old_entry k x at) (new_entry k x at) (cases_lt k n);
      few_roots = draft.few_roots;
      rooted = omega (arith, longer, draft.rooted);
      all_rooted = λ whole. absurd (omega arith);
      ends_many = draft.ends_many;
      ends = draft.ends;
      roots = λ place lt. root place (draft.roots place lt);
      reached = λ k lt. reached k (draft.reached k lt);
      firsts_many = omega (arith, longer, draft.firsts_many, length_push firsts (length d.plan.ends / SECTION_ROWS));
      first = λ k lt. ⊎_elim (old_first k) (new_first k lt) (cases_lt k n);
    }
  where
    n : ℕ
    n = length d.plan.entries

    longer : length (d.plan.entries ++ e ∷ []) ≡ n + 1
    longer = length_push d.plan.entries e

    old_entry : (k : ℕ) (x : Entry) → slice_get (d.plan.entries ++ e ∷ []) k ≡ Some x → k < n
        → IsEntry (length d.plan.tints) (take k (d.plan.entries ++ e ∷ [])) x
    old_entry k x at lt =
        subst (λ (l : List Entry). IsEntry (length d.plan.tints) l x)
        (sym (take-append-le k d.plan.entries (e ∷ []) (omega arith)))
        (draft.entries k x (sym (slice_get-append_left d.plan.entries (e ∷ []) k lt) ∙ at))

    new_entry : (k : ℕ) (x : Entry) → slice_get (d.plan.entries ++ e ∷ []) k ≡ Some x → n ≤ k
        → IsEntry (length d.plan.tints) (take k (d.plan.entries ++ e ∷ [])) x
    new_entry k x at le =
        let short = slice_get_within (d.plan.entries ++ e ∷ []) k x at in
        let here : k ≡ n = omega (arith, longer) in
        let is : e ≡ x =
        sym (get_or_push d.plan.entries e no_entry k (sym here)) ∙ get_or_from_slice_get (d.plan.entries ++ e ∷ []) k x no_entry at in
        let before : take k (d.plan.entries ++ e ∷ []) ≡ d.plan.entries =
        take-append-le k d.plan.entries (e ∷ []) (omega arith) ∙ take_all k d.plan.entries le in
        subst (λ (y : Entry). IsEntry (length d.plan.tints) (take k (d.plan.entries ++ e ∷ [])) y) is
        (subst (λ (l : List Entry). IsEntry (length d.plan.tints) l e) (sym before) valid)

    root : (place : ℕ) → IsRootAt d place → IsRootAt (with_entry d e) place
    root place was =
        record {
          there = was.there;
          ended = was.ended;
          rect = was.rect
              ∙ ap (λ (x : Entry). Some x.rect)
              (sym (entry_at-push_left d.plan.entries e (slice_index d.plan.roots place) (omega (arith, was.there, draft.rooted))));
        }

    reached : (k : ℕ) → IsReached d k → IsReached (with_entry d e) k
    reached k was =
        record {
          place = was.place;
          there = was.there;
          row = was.row;
          reaches = Reaches-more d.plan.entries e (slice_index d.plan.roots was.place) k was.reaches;
        }

    old_first : (k : ℕ) → k < n
        → slice_index (firsts ++ length d.plan.ends / SECTION_ROWS ∷ []) k ≡ first_section (with_entry d e).plan k
    old_first k lt =
        get_or_append_left firsts (length d.plan.ends / SECTION_ROWS ∷ []) 0 k (omega (arith, draft.firsts_many)) ∙ draft.first k lt

    new_first : (k : ℕ) → k < length (d.plan.entries ++ e ∷ []) → n ≤ k
        → slice_index (firsts ++ length d.plan.ends / SECTION_ROWS ∷ []) k ≡ first_section (with_entry d e).plan k
    new_first k lt le =
        get_or_push firsts (length d.plan.ends / SECTION_ROWS) 0 k (omega (arith, longer, draft.firsts_many))
        ∙ ap (λ row. row / SECTION_ROWS)
        (sym (ended_by-all d.plan.ends k (AreEnds-more (omega (arith, draft.rooted)) draft.ends).within))

-- ---- a tint is added

IsJob-more : (tints : ℕ) (j : Job) → IsJob tints j → IsJob (tints + 1) j
IsJob-more tints job.Clear is = tt
IsJob-more tints (job.Leaf drawing dx dy) is = is
IsJob-more tints (job.Tinted drawing dx dy tint) is = (is.0, is.1, omega (arith, is.2))
IsJob-more tints (job.Card pixel) is = tt
IsJob-more tints (job.Pair op) is = tt
IsJob-more tints (job.Blur radius) is = is

pub IsDraft-tint :
    {d : Draft} {firsts : List ℕ} → IsDraft d firsts → (tint : List Channels) → length d.plan.tints + 1 < 2 ^ 32
    → IsDraft (with_tint d tint) firsts
IsDraft-tint {d} {firsts} draft tint room =
    record {
      few_tiles = draft.few_tiles;
      few_rows = draft.few_rows;
      few_aliases = draft.few_aliases;
      few_tints = omega (arith, longer);
      entries = λ k x at. entry k x (draft.entries k x at);
      few_roots = draft.few_roots;
      rooted = draft.rooted;
      all_rooted = draft.all_rooted;
      ends_many = draft.ends_many;
      ends = draft.ends;
      roots = λ place lt. let was = draft.roots place lt in record { there = was.there; ended = was.ended; rect = was.rect };
      reached = λ k lt.
          let was = draft.reached k lt in record { place = was.place; there = was.there; row = was.row; reaches = was.reaches };
      firsts_many = draft.firsts_many;
      first = draft.first;
    }
  where
    longer : length (d.plan.tints ++ tint ∷ []) ≡ length d.plan.tints + 1
    longer = length_push d.plan.tints tint

    entry : (k : ℕ) (x : Entry) → IsEntry (length d.plan.tints) (take k d.plan.entries) x
        → IsEntry (length (d.plan.tints ++ tint ∷ [])) (take k d.plan.entries) x
    entry k x was =
        record {
          ports = was.ports;
          inputs = was.inputs;
          job = subst (λ (t : ℕ). IsJob t x.job) (sym longer) (IsJob-more (length d.plan.tints) x.job was.job);
          valid = was.valid;
          sides = was.sides;
        }

-- ---- a root is given

-- a row ends, or none
pub ends_cases :
    (P : List ℕ → Type 0) (ends : List ℕ) (aliases roots tiles : ℕ)
    → (roots % tiles ≡ 0 → P (ends ++ aliases ∷ [])) → (0 < roots % tiles → P ends)
    → P (cond (eqb (roots % tiles) 0) (ends ++ aliases ∷ []) ends)
ends_cases P ends aliases roots tiles last other =
    ⊎_elim
    (λ is. subst (λ (b : Bool). P (cond b (ends ++ aliases ∷ []) ends)) (sym (eq-eqb (roots % tiles) 0 is)) (last is))
    (λ isnt. subst (λ (b : Bool). P (cond b (ends ++ aliases ∷ []) ends)) (sym (ne_eqb (roots % tiles) 0 isnt)) (other (omega arith)))
    (cases_eq (roots % tiles) 0)

-- the draft in which the next root is given and the rows end here
abbrev pub rooted_to : Draft → ℕ → List ℕ → Draft
rooted_to d k ends =
    record d {
      plan = record d.plan { roots = d.plan.roots ++ k ∷ []; ends = ends };
      rooted = length d.plan.entries;
    }

-- the rows' ends after the next root, as far as it matters
pub record EndsAfter (d : Draft) (ends : List ℕ) : Type 0 where
  are : AreEnds ends (length d.plan.entries)
  many : length ends ≡ (length d.plan.roots + 1) / length d.plan.tiles
  short : length ends ≤ length d.plan.ends + 1
  same : (k : ℕ) → k < length d.plan.entries → ended_by ends k ≡ ended_by d.plan.ends k
  old : (row : ℕ) → row < length d.plan.ends → slice_index ends row ≡ slice_index d.plan.ends row
  new : length d.plan.ends < length ends → slice_index ends (length d.plan.ends) ≡ length d.plan.entries

IsDraft-rooted_to :
    {d : Draft} {firsts : List ℕ} → IsDraft d firsts → (k : ℕ) (ends : List ℕ) → EndsAfter d ends
    → LacksRoots d → k < length d.plan.entries
    → slice_get d.plan.tiles (next_tile d) ≡ Some (entry_at d.plan.entries k).rect → ReachesNew d k
    → IsDraft (rooted_to d k ends) firsts
IsDraft-rooted_to {d} {firsts} draft k ends after lacks there rect reaches =
    record {
      few_tiles = draft.few_tiles;
      few_rows = draft.few_rows;
      few_aliases = draft.few_aliases;
      few_tints = draft.few_tints;
      entries = draft.entries;
      few_roots = omega (arith, longer);
      rooted = omega arith;
      all_rooted = λ whole. refl;
      ends_many = after.many ∙ ap (λ r. r / length d.plan.tiles) (sym longer);
      ends = after.are;
      roots = λ place lt. ⊎_elim (λ was. old_root place was (draft.roots place was)) (new_root place lt) (cases_lt place count);
      reached = λ j lt. ⊎_elim (λ was. old_reached j lt (draft.reached j was)) (new_reached j lt) (cases_lt j d.rooted);
      firsts_many = draft.firsts_many;
      first = λ j lt. draft.first j lt ∙ ap (λ row. row / SECTION_ROWS) (sym (after.same j lt));
    }
  where
    count : ℕ
    count = length d.plan.roots

    longer : length (d.plan.roots ++ k ∷ []) ≡ count + 1
    longer = length_push d.plan.roots k

    kept : (place : ℕ) → place < count → slice_index (d.plan.roots ++ k ∷ []) place ≡ slice_index d.plan.roots place
    kept place lt = get_or_append_left d.plan.roots (k ∷ []) 0 place lt

    given : slice_index (d.plan.roots ++ k ∷ []) count ≡ k
    given = get_or_push d.plan.roots k 0 count refl

    ended : (place : ℕ) → (slice_index (d.plan.roots ++ k ∷ []) place < length d.plan.entries)
        → (place / length d.plan.tiles < length d.plan.ends
        → slice_index (d.plan.roots ++ k ∷ []) place < slice_index d.plan.ends (place / length d.plan.tiles))
        → place / length d.plan.tiles < length ends
        → slice_index (d.plan.roots ++ k ∷ []) place < slice_index ends (place / length d.plan.tiles)
    ended place below was lt =
        ⊎_elim
        (λ old. let same = after.old (place / length d.plan.tiles) old in let h = was old in omega arith)
        (λ new.
        let row : place / length d.plan.tiles ≡ length d.plan.ends = omega (arith, after.short) in
        let end = after.new (omega arith) in
        let same : slice_index ends (place / length d.plan.tiles) ≡ length d.plan.entries = ap (λ r. slice_index ends r) row ∙ end in
        omega arith)
        (cases_lt (place / length d.plan.tiles) (length d.plan.ends))

    old_root : (place : ℕ) → place < count → IsRootAt d place → IsRootAt (rooted_to d k ends) place
    old_root place lt was =
        let same = kept place lt in
        record {
          there = omega (arith, was.there, draft.rooted);
          ended = ended place (omega (arith, was.there, draft.rooted)) (λ row. let h = was.ended row in omega arith);
          rect = was.rect ∙ ap (λ (n : ℕ). Some (entry_at d.plan.entries n).rect) (sym same);
        }

    new_root : (place : ℕ) → place < length (d.plan.roots ++ k ∷ []) → count ≤ place → IsRootAt (rooted_to d k ends) place
    new_root place lt le =
        let here : count ≡ place = omega (arith, longer) in
        let row = draft.ends_many in
        subst (λ (p : ℕ). IsRootAt (rooted_to d k ends) p) here
        (record {
          there = omega (arith, given);
          ended = ended count (omega (arith, given)) (λ before. absurd (omega arith));
          rect = rect ∙ ap (λ (n : ℕ). Some (entry_at d.plan.entries n).rect) (sym given);
        })

    old_reached : (j : ℕ) → j < length d.plan.entries → IsReached d j → IsReached (rooted_to d k ends) j
    old_reached j lt was =
        record {
          place = was.place;
          there = omega (arith, was.there, longer);
          row = was.row ∙ sym (after.same j lt);
          reaches = subst (λ (n : ℕ). Reaches d.plan.entries n j) (sym (kept was.place was.there)) was.reaches;
        }

    new_reached : (j : ℕ) → j < length d.plan.entries → d.rooted ≤ j → IsReached (rooted_to d k ends) j
    new_reached j lt le =
        record {
          place = count;
          there = omega (arith, longer);
          row = sym (after.same j lt ∙ ended_by-all d.plan.ends j (AreEnds-more le draft.ends).within ∙ draft.ends_many);
          reaches = subst (λ (n : ℕ). Reaches d.plan.entries n j) (sym given) (reaches j le lt);
        }

EndsAfter-last :
    {d : Draft} {firsts : List ℕ} → IsDraft d firsts → (length d.plan.roots + 1) / length d.plan.tiles ≡ length d.plan.roots / length d.plan.tiles + 1
    → EndsAfter d (d.plan.ends ++ length d.plan.entries ∷ [])
EndsAfter-last {d} draft more =
    let n = length d.plan.entries in
    let longer = length_push d.plan.ends n in
    record {
      are = AreEnds-push draft.rooted draft.ends;
      many = omega (arith, draft.ends_many);
      short = omega arith;
      same = λ k lt. ended_by-push d.plan.ends n k lt;
      old = λ row lt. get_or_append_left d.plan.ends (n ∷ []) 0 row lt;
      new = λ lt. get_or_push d.plan.ends n 0 (length d.plan.ends) refl;
    }

EndsAfter-other :
    {d : Draft} {firsts : List ℕ} → IsDraft d firsts → (length d.plan.roots + 1) / length d.plan.tiles ≡ length d.plan.roots / length d.plan.tiles
    → EndsAfter d d.plan.ends
EndsAfter-other draft same =
    record {
      are = AreEnds-more draft.rooted draft.ends;
      many = draft.ends_many ∙ sym same;
      short = omega arith;
      same = λ k lt. refl;
      old = λ row lt. refl;
      new = λ lt. absurd (omega arith);
    }

pub IsDraft-root :
    {d : Draft} {firsts : List ℕ} → IsDraft d firsts → (k : ℕ) → LacksRoots d → k < length d.plan.entries
    → slice_get d.plan.tiles (next_tile d) ≡ Some (entry_at d.plan.entries k).rect → ReachesNew d k
    → IsDraft (with_root d k) firsts
IsDraft-root {d} {firsts} draft k lacks there rect reaches =
    let next = place_next (length d.plan.roots) (length d.plan.tiles) draft.few_tiles.0 in
    ends_cases (λ ends. IsDraft (rooted_to d k ends) firsts) d.plan.ends (length d.plan.entries) (length d.plan.roots + 1)
    (length d.plan.tiles)
    (λ is.
    let more : (length d.plan.roots + 1) / length d.plan.tiles ≡ length d.plan.roots / length d.plan.tiles + 1 =
    ⊎_elim (λ h. absurd (omega arith)) (λ h. h.0) next in
    IsDraft-rooted_to draft k (d.plan.ends ++ length d.plan.entries ∷ []) (EndsAfter-last draft more) lacks there rect reaches)
    (λ isnt.
    let same : (length d.plan.roots + 1) / length d.plan.tiles ≡ length d.plan.roots / length d.plan.tiles =
    ⊎_elim (λ h. h.0) (λ h. absurd (omega arith)) next in
    IsDraft-rooted_to draft k d.plan.ends (EndsAfter-other draft same) lacks there rect reaches)

-- ---- reaching, in a caller's words

pub Reaches-itself : (entries : List Entry) (k : ℕ) → Reaches entries k k
unfolding Leads
Reaches-itself entries k = record { reads = 0; way = refl }

pub Reaches-input :
    (entries : List Entry) (k input last : ℕ) → Contains (entry_at entries k).inputs input → Reaches entries input last
    → Reaches entries k last
unfolding Leads
Reaches-input entries k input last has reaches = record { reads = suc reaches.reads; way = (input, has, reaches.way) }
