-- Lemmas on what is held once the rows of a section are gathered
use Rattle.std.proofs.Common.{◌≡◌, ◌<◌, ◌≤◌, ◌↔◌, ◌+◌, ℕ, zero, ◌==◌, ◌&&◌, cond, List, [], length, get_or, slice_index_or, sym, ap, subst, ◌∙◌, inl, inr, arith}
use Rattle.std.specs.List.{Contains}
use Rattle.std.proofs.lemmas.Bool.{cases_lt, and_from, and_parts, eq-eqb, eqb-true}
use Rattle.std.proofs.lemmas.List.{append-nil, get_or_default, length-map}
use Rattle.std.proofs.lemmas.List.Elements.{All-get_or, Contains-get_or}
use Rattle.std.proofs.lemmas.List.Sums.{sum_by-append}
use Rattle.std.proofs.Math.ListN.{get_or-map}
use Rattle.xs_plan.specs.declared.job.Edge.{Edge}
use Rattle.xs_plan.specs.declared.job.Reader.TheVariants.{Port, Root}
use Rattle.xs_plan.specs.Record.{PlanRecord}
use Rattle.xs_plan.specs.Reads.{reads_in, edge, edges, sources}
use Rattle.xs_plan.specs.Sections.{first_section, section_of, live_after}
use Rattle.xs_plan.specs.Valid.{Leads}
use Rattle.xs_core.proofs.CountLemmas.{how_many-found, how_many-some}
use Rattle.xs_core.specs.States.{source_at}
use Rattle.xs_core.specs.Views.{Signed, DeskView, DeskOk, Knows, entries, IsFresh, IsHeld}
use Rattle.xs_core.specs.Calls.{Adds}
use Rattle.xs_worker.specs.Sections.{IsRootOf, IsRootReadOf, read_section, IsBegun, IsDone, AreGathered}
use Rattle.xs_worker.proofs.KindLemmas.{kind_of}
use Rattle.xs_worker.proofs.SectionLemmas.{root_there, Facts, section_here, root_section, first_by}

-- ---- before the first section

pub fresh_begun : (p : PlanRecord) (v : DeskView) → IsFresh v → IsBegun p 0 v
fresh_begun p v fresh = record {
  settled = λ k. ap (λ (l : List Signed). entries k l) (fresh.won ∙ sym fresh.made);
  made = λ k there. (λ some. absurd (omega (arith, some, none k fresh.made)), λ less. absurd (omega (arith, less)));
  served = λ e within. (λ some. absurd (omega (arith, some, none e fresh.served)), λ less. absurd (omega (arith, less)));
}
  where
    none : (k : ℕ) {list : List Signed} → list ≡ [] → entries k list ≡ 0
    none k {list = list} is = ap (λ (l : List Signed). entries k l) is

-- ---- a row of the section is gathered

-- the alias of a row and tile of a section is ready after the section
pub root_known : (p : PlanRecord) (s : ℕ) (v : DeskView) (k : ℕ) → Facts p → IsDone p s v → DeskOk p v → IsRootOf p s k → Knows v k
unfolding Leads
root_known p s v k f done ok at =
    let there = root_there p s k f.valid at in
    let first = first_by p at.row k f at.row_there
    (record { tile = at.tile; there = at.tile_there; reaches = record { reads = zero; way = sym at.is } }) in
    ok.knows_made k ((done.made k there).1 (omega (arith, first, at.row_in)))

pub done_still :
    (p : PlanRecord) (s : ℕ) (v w : DeskView) (reads : List Signed) → Facts p → IsDone p s v → Adds v w [] [] [] reads
    → ((e : ℕ) → 0 < entries e reads → IsRootReadOf p s e) → IsDone p s w
done_still p s v w reads f done adds only = record {
  settled = λ k. omega (arith, won k, made k, done.settled k);
  made = λ k there. (
    λ some. (done.made k there).0 (omega (arith, some, made k)),
    λ le. let before = (done.made k there).1 le in omega (arith, before, made k),
  );
  ports = λ e alias port within reader le. let before = done.ports e alias port within reader le in omega (arith, before, served e);
  earlier = λ e within less. let before = done.earlier e within less in omega (arith, before, served e);
  none_later = none_later;
}
  where
    won : (k : ℕ) → entries k w.won ≡ entries k v.won
    won k = ap (λ (l : List Signed). entries k l) (adds.won ∙ append-nil v.won)

    made : (k : ℕ) → entries k w.made ≡ entries k v.made
    made k = ap (λ (l : List Signed). entries k l) (adds.made ∙ append-nil v.made)

    served : (e : ℕ) → entries e w.served ≡ entries e v.served + entries e reads
    served e = ap (λ (l : List Signed). entries e l) adds.served ∙ sum_by-append (λ (s : Signed). cond (s.item == e) 1 0) v.served reads

    none_later : (e : ℕ) → e < reads_in p → 0 < entries e w.served → read_section p e ≤ s
    none_later e within some = elim (cases_lt 0 (entries e reads)) [
      | inl new ↦ omega (arith, root_section p s e f (only e new))
      | inr none ↦ done.none_later e within (omega (arith, some, none, served e))
    ]

-- ---- all rows of the section are gathered

all_served : (p : PlanRecord) (s : ℕ) (v : DeskView) (e : ℕ) → Facts p → IsDone p s v → AreGathered p s v → e < reads_in p
    → read_section p e ≤ s → 0 < entries e v.served
all_served p s v e f done gathered within le = elim (kind_of p e f.valid f.ports f.roots within) [
  | inl at ↦
      let here = section_here p e (Port at.alias at.port) at.reader in
      done.ports e at.alias at.port within at.reader (omega (arith, here, le))
  | inr at ↦
      let here = section_here p e (Root at.row at.tile) at.reader in
      elim (cases_lt (read_section p e) s) [
        | inl less ↦ done.earlier e within less
        | inr more ↦ gathered e (record {
          row = at.row;
          tile = at.tile;
          row_there = at.row_there;
          row_in = omega (arith, here, le, more);
          tile_there = at.tile_there;
          is = at.number;
        })
      ]
]

pub begun_next : (p : PlanRecord) (s : ℕ) (v : DeskView) → Facts p → IsDone p s v → AreGathered p s v → IsBegun p (s + 1) v
begun_next p s v f done gathered = record {
  settled = done.settled;
  made = λ k there. (
    λ some. let le = (done.made k there).0 some in omega (arith, le),
    λ less. (done.made k there).1 (omega (arith, less)),
  );
  served = λ e within. (
    λ some. let le = done.none_later e within some in omega (arith, le),
    λ less. all_served p s v e f done gathered within (omega (arith, less)),
  );
}

-- ---- what is held

-- the read with a number, as it stands in the plan
abbrev read_at : PlanRecord → ℕ → Edge
read_at p e = slice_index_or (edges p) e (edge 0 (Root 0 0))

many_reads : (p : PlanRecord) → Facts p → reads_in p ≡ length (edges p)
many_reads p f = ap (λ (l : List ℕ). length l) (sym f.are) ∙ length-map (edges p) (λ (e : Edge). e.source)

source_there : (p : PlanRecord) (e : ℕ) → Facts p → source_at p e ≡ (read_at p e).source
source_there p e f = ap (λ (l : List ℕ). get_or l e 0) (sym f.are) ∙ get_or-map (λ (e : Edge). e.source) (edges p) e (edge 0 (Root 0 0))

-- an alias has come by a section, and is read in a later one
abbrev IsReadLater : PlanRecord → ℕ → ℕ → Type 0
IsReadLater p s k = (k < length p.entries) × (first_section p k ≤ s)
    × ((e : Edge) × Contains (edges p) e × (e.source ≡ k) × (s < section_of p e.reader))

held_later : (p : PlanRecord) (s : ℕ) (v : DeskView) (k : ℕ) → Facts p → IsDone p s v → AreGathered p s v → IsHeld p v k → IsReadLater p s k
held_later p s v k f done gathered held =
    let found = how_many-found (reads_in p) (λ e. (source_at p e == k) && (entries e v.served == 0)) held.1 in
    let e = found.0 in
    let tests = and_parts (source_at p e == k) (entries e v.served == 0) found.2 in
    let source = eqb-true (source_at p e) k tests.0 in
    let none = eqb-true (entries e v.served) 0 tests.1 in
    let there : k < length p.entries = subst (λ (j : ℕ). j < length p.entries) source
    (All-get_or (λ source. source < length p.entries) (sources p) e 0 found.1 f.exist) in
    let later : s < read_section p e = elim (cases_lt s (read_section p e)) [
      | inl less ↦ less
      | inr le ↦ let some = all_served p s v e f done gathered found.1 le in absurd (omega (arith, some, none))
    ] in
    let within : e < length (edges p) = omega (arith, found.1, many_reads p f) in (
      there,
      (done.made k there).0 held.0,
      (read_at p e, Contains-get_or (edges p) e (edge 0 (Root 0 0)) within, sym (source_there p e f) ∙ source, later),
    )

later_held : (p : PlanRecord) (s : ℕ) (v : DeskView) (k : ℕ) → Facts p → IsDone p s v → IsReadLater p s k → IsHeld p v k
later_held p s v k f done is =
    let read = is.2 in
    let at = read.1 in
    let e = at.0 in
    let within : e < reads_in p = omega (arith, at.1, many_reads p f) in
    let same : read_at p e ≡ read.0 = get_or_default (edges p) e (edge 0 (Root 0 0)) read.0 at.1 ∙ at.2 in
    let source : source_at p e ≡ k = source_there p e f ∙ ap (λ (x : Edge). x.source) same ∙ read.2 in
    let section : read_section p e ≡ section_of p read.0.reader = ap (λ (x : Edge). section_of p x.reader) same in
    let none : entries e v.served ≡ 0 = elim (cases_lt 0 (entries e v.served)) [
      | inl some ↦ let le = done.none_later e within some in absurd (omega (arith, le, section, read.3))
      | inr none ↦ omega (arith, none)
    ] in (
      (done.made k is.0).1 is.1,
      how_many-some (reads_in p) e (λ e. (source_at p e == k) && (entries e v.served == 0)) within
          (and_from (source_at p e == k) (entries e v.served == 0) (eq-eqb (source_at p e) k source) (eq-eqb (entries e v.served) 0 none)),
    )

pub held_live : (p : PlanRecord) (s : ℕ) (v : DeskView) (k : ℕ) → Facts p → Contains (live_after p s) k ↔ IsReadLater p s k
    → IsDone p s v → AreGathered p s v → IsHeld p v k ↔ Contains (live_after p s) k
held_live p s v k f live done gathered =
    (λ held. live.1 (held_later p s v k f done gathered held), λ has. later_held p s v k f done (live.0 has))
