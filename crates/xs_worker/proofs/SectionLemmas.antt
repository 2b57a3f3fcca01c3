-- Lemmas on what workers leave of a section
use Rattle.std.proofs.Common.{◌≡◌, ◌≢◌, ◌<◌, ◌≤◌, ◌+◌, ◌/◌, ℕ, zero, suc, Some, None, List, [], ◌++◌, All, length, map, slice_get, slice_index, true, false, refl, sym, ap, subst, ◌∙◌, inl, inr, arith}
use Rattle.std.proofs.lemmas.Bool.{cases_lt}
use Rattle.std.proofs.lemmas.List.{get_or_default, length-map}
use Rattle.std.proofs.lemmas.List.Elements.{Contains-get_or}
use Rattle.std.proofs.lemmas.Nat.{le-div}
use Rattle.std.proofs.lemmas.Option.{slice_get-get_or, slice_get_within}
use Rattle.std.proofs.Math.Nat.{div-mul-le_self}
use Rattle.xs_base.specs.declared.limits.TheConstants.{SECTION_ROWS}
use Rattle.xs_plan.specs.declared.job.Edge.{Edge}
use Rattle.xs_plan.specs.declared.job.Reader.{Reader}
use Rattle.xs_plan.specs.declared.job.Reader.TheVariants.{Port, Root}
use Rattle.xs_plan.specs.Record.{PlanRecord, entry_at, root_at, rows_in}
use Rattle.xs_plan.specs.Reads.{sources, reads_in, port_read_of, root_read_of, edge, edges}
use Rattle.xs_plan.specs.Sections.{first_row, first_section, section_of}
use Rattle.xs_plan.specs.Valid.{IsPlan, Reaches, RowReaches, Leads}
use Rattle.xs_core.specs.States.{source_at, reader_at}
use Rattle.xs_core.specs.Views.{DeskView, DeskOk, Knows, times, entries, Unknown}
use Rattle.xs_worker.specs.declared.advanced.Advanced.{Advanced}
use Rattle.xs_worker.specs.declared.advanced.Advanced.TheVariants as advanced
use Rattle.xs_worker.specs.Reading.{TellsReads, IsReached}
use Rattle.xs_worker.specs.Claims.{Grew}
use Rattle.xs_worker.specs.Advances.{Standing, StandsAt, fresh_worker, HasFinished, AdvancedTells}
use Rattle.xs_worker.specs.Sections.{IsRootOf, AreRoots, IsRootReadOf, read_section, IsBegun, IsDone, IsMadeIn, Gained, AreKnown}
use Rattle.xs_worker.proofs.Lists.{entries-grown, times-append}
use Rattle.xs_worker.proofs.GrewLemmas.{none_of}
use Rattle.xs_worker.proofs.ReadLemmas.{tells_reads}
use Rattle.xs_worker.proofs.KindLemmas.{IsRoot, TellsPorts, TellsRoots, kind_of, root_reader}

pub new_stands : (p : PlanRecord) (targets : List ℕ) (v : DeskView) → ((i : ℕ) → i < length targets → slice_index targets i < length p.entries)
    → ((k : ℕ) → entries k v.won ≡ entries k v.made + entries k v.lost) → StandsAt p (fresh_worker targets) v
new_stands p targets v there idle = record {
  able = record {
    fits = record {
      chain = tt;
      claims = λ k. omega (arith, idle k);
      unserved = λ k port e some is. absurd (none_of k some);
    };
    there = there;
    within = omega arith;
    known = λ i less. absurd (omega (arith, less));
    last = λ _. refl;
  };
  over = λ differ. absurd (differ refl);
}

pub root_there : (p : PlanRecord) (s k : ℕ) → IsPlan p → IsRootOf p s k → k < length p.entries
root_there p s k valid at =
    let root = valid.roots at.row at.tile at.row_there at.tile_there in
    let end = valid.ends.within at.row 0 at.row_there in
    omega (arith, root.there, end, at.is)

pub begun_stands : (p : PlanRecord) → IsPlan p → (s : ℕ) (targets : List ℕ) (v : DeskView) → AreRoots p s targets → IsBegun p s v → DeskOk p v
    → StandsAt p (fresh_worker targets) v
begun_stands p valid s targets v roots begun ok =
    new_stands p targets v
    (λ i less. root_there p s (slice_index targets i) valid (roots.only (slice_index targets i) (Contains-get_or targets i 0 less)))
    (λ k. omega (arith, begun.settled k, ok.backed k))

-- ---- a worker alone

pub alone_finishes :
    (p : PlanRecord) (s new : Standing) (v w : DeskView) (b c : List ℕ) (a : Advanced) → DeskOk p v → v.solo ≡ true → s.gone ≡ None
    → ((k : ℕ) → entries k v.won ≡ entries k v.made) → AdvancedTells p s v b a new w c → a ≡ advanced.Finished
alone_finishes p s new v w b c advanced.Finished ok alone before settled told = refl
alone_finishes p s new v w b c (advanced.Blocked k) ok alone before settled told =
    absurd (let same : true ≡ false = sym alone ∙ told.busy.shared in cc)
alone_finishes p s new v w b c (advanced.Lost k) ok alone before settled told =
    let lost = (told.cause before).lost alone in
    absurd (omega (arith, lost, settled k, ok.backed k))

pub finished_settled :
    (p : PlanRecord) (s new : Standing) (v w : DeskView) (b c : List ℕ) → DeskOk p v → ((k : ℕ) → entries k v.won ≡ entries k v.made)
    → HasFinished p s v b new w c → StandsAt p new w → (k : ℕ) → entries k w.won ≡ entries k w.made
finished_settled p s new v w b c ok settled done stands k =
    let lost = entries-grown k v.number v.lost w.lost [] done.grew.adds.lost in
    let none = ap (λ (l : List ℕ). times k l) done.stack in
    omega (arith, lost, none, settled k, ok.backed k, stands.able.fits.claims k)

-- ---- what is known of a plan

pub record Facts (p : PlanRecord) : Type 0 where
  pub valid : IsPlan p
  pub tells : TellsReads p
  pub ports : TellsPorts p
  pub roots : TellsRoots p
  pub are : map (λ (e : Edge). e.source) (edges p) ≡ sources p
  pub exist : All (λ source. source < length p.entries) (sources p)
  pub rows : (k : ℕ) → k < length p.entries → first_row p k < rows_in p
  pub earlier : (row k : ℕ) → row < rows_in p → RowReaches p row k → first_row p k ≤ row

pub facts_of :
    (p : PlanRecord) → IsPlan p → map (λ (e : Edge). e.source) (edges p) ≡ sources p → TellsPorts p → TellsRoots p
    → All (λ source. source < length p.entries) (sources p) → ((k : ℕ) → k < length p.entries → first_row p k < rows_in p)
    → ((row k : ℕ) → row < rows_in p → RowReaches p row k → first_row p k ≤ row) → Facts p
facts_of p valid are ports roots exist rows earlier = record {
  valid = valid;
  tells = tells_reads p valid are ports;
  ports = ports;
  roots = roots;
  are = are;
  exist = exist;
  rows = rows;
  earlier = earlier;
}

-- ---- sections of reads

pub section_here : (p : PlanRecord) (e : ℕ) (r : Reader) → reader_at p e ≡ r → read_section p e ≡ section_of p r
section_here p e r is = ap (λ (o : Reader). section_of p o) is

-- a read of a row's tile is at no port
apart : (p : PlanRecord) (e k port row tile : ℕ) → reader_at p e ≡ Port k port → reader_at p e ≡ Root row tile → ⊥
apart p e k port row tile first second = let same : Port k port ≡ Root row tile = sym first ∙ second in cc

root_kind : (p : PlanRecord) (s e : ℕ) → Facts p → IsRootReadOf p s e → IsRoot p e
root_kind p s e f at = record {
  row = at.row;
  tile = at.tile;
  row_there = at.row_there;
  tile_there = at.tile_there;
  number = at.is;
  reader = ap (λ n. reader_at p n) at.is ∙ root_reader p f.roots at.row at.tile at.row_there at.tile_there;
}

pub root_section : (p : PlanRecord) (s e : ℕ) → Facts p → IsRootReadOf p s e → read_section p e ≡ s
root_section p s e f at =
    section_here p e (Root at.row at.tile)
    (ap (λ n. reader_at p n) at.is ∙ root_reader p f.roots at.row at.tile at.row_there at.tile_there) ∙ at.row_in

root_within : (p : PlanRecord) (e : ℕ) → Facts p → IsRoot p e → e < reads_in p
root_within p e f root =
    let at = f.roots root.row root.tile root.row_there root.tile_there in
    let within = slice_get_within (edges p) (root_read_of p root.row root.tile)
    (edge (root_at p root.row root.tile) (Root root.row root.tile)) at in
    omega (arith, root.number, within, ap (λ (l : List ℕ). length l) (sym f.are) ∙ length-map (edges p) (λ (e : Edge). e.source))

-- ---- what was gained

pub grew_gained : (p : PlanRecord) (targets : List ℕ) (v w : DeskView) (b c more gone : List ℕ) → Grew p targets v w b c more gone → Gained p targets v w
grew_gained p targets v w b c more gone g = record {
  won = λ k. omega (arith, won k);
  made = λ k. omega (arith, made k);
  served = λ e. omega (arith, served e);
  reached = λ k less. g.reached k (omega (arith, less, won k));
  ports = λ e less. let o = g.ports e (omega (arith, less, served e)) in (o.0, o.1, o.2, omega (arith, o.3, made o.0));
  closed = λ k port e less is. omega (arith, served e, g.closed k port e (omega (arith, less, made k)) is);
}
  where
    won : (k : ℕ) → entries k w.won ≡ entries k v.won + times k g.won
    won k = entries-grown k v.number v.won w.won g.won g.adds.won

    made : (k : ℕ) → entries k w.made ≡ entries k v.made + times k g.made
    made k = entries-grown k v.number v.made w.made g.made g.adds.made

    served : (e : ℕ) → entries e w.served ≡ entries e v.served + times e g.served
    served e = entries-grown e v.number v.served w.served g.served g.adds.served

-- the bench's record grew as the list of what was made
pub grew_record : (p : PlanRecord) (targets : List ℕ) (v w : DeskView) (b c gone : List ℕ) (k : ℕ) → Grew p targets v w b c [] gone
    → times k c + entries k v.made ≡ times k b + entries k w.made
grew_record p targets v w b c gone k g =
    let made = entries-grown k v.number v.made w.made g.made g.adds.made in
    let record_is = ap (λ (l : List ℕ). times k l) g.bench ∙ times-append k b (g.made ++ []) in
    omega (arith, made, record_is, times-append k g.made [])

pub gained_then : (p : PlanRecord) (targets : List ℕ) (v w x : DeskView) → ((k : ℕ) → Knows v k → Knows w k) → Gained p targets v w → Gained p targets w x → Gained p targets v x
gained_then p targets v w x knows g h = record {
  won = λ k. omega (arith, g.won k, h.won k);
  made = λ k. omega (arith, g.made k, h.made k);
  served = λ e. omega (arith, g.served e, h.served e);
  reached = reached;
  ports = ports;
  closed = closed;
}
  where
    reached : (k : ℕ) → entries k v.won < entries k x.won → IsReached p targets k × Unknown v k
    reached k less = elim (cases_lt (entries k v.won) (entries k w.won)) [
      | inl before ↦ g.reached k before
      | inr none ↦
          let after = h.reached k (omega (arith, less, none)) in (
            after.0,
            elim (cases_lt 0 (times k v.known)) [
              | inl known ↦ let still = knows k known in absurd (omega (arith, still, after.1))
              | inr unknown ↦ omega (arith, unknown)
            ],
          )
    ]

    ports : (e : ℕ) → entries e v.served < entries e x.served
        → (k : ℕ) × (port : ℕ) × (port_read_of p k port ≡ Some e) × (entries k v.made < entries k x.made)
    ports e less = elim (cases_lt (entries e v.served) (entries e w.served)) [
      | inl before ↦ let o = g.ports e before in (o.0, o.1, o.2, omega (arith, o.3, h.made o.0))
      | inr none ↦ let o = h.ports e (omega (arith, less, none)) in (o.0, o.1, o.2, omega (arith, o.3, g.made o.0))
    ]

    closed : (k port e : ℕ) → entries k v.made < entries k x.made → port_read_of p k port ≡ Some e → 0 < entries e x.served
    closed k port e less is = elim (cases_lt (entries k v.made) (entries k w.made)) [
      | inl before ↦ omega (arith, g.closed k port e before is, h.served e)
      | inr none ↦ h.closed k port e (omega (arith, less, none)) is
    ]

-- ---- what was gained in a section

div_le : (a b : ℕ) → a ≤ b → a / SECTION_ROWS ≤ b / SECTION_ROWS
div_le a b le = le-div (a / SECTION_ROWS) b SECTION_ROWS (omega arith) (omega (arith, div-mul-le_self a SECTION_ROWS, le))

-- what a row reaches comes first in its section or before
pub first_by : (p : PlanRecord) (row k : ℕ) → Facts p → row < rows_in p → RowReaches p row k → first_section p k ≤ row / SECTION_ROWS
first_by p row k f there reaches = div_le (first_row p k) row (f.earlier row k there reaches)

-- what a section's targets reach and is not known to be ready comes first in the section
pub first_here :
    (p : PlanRecord) (s : ℕ) (targets : List ℕ) (v : DeskView) (k : ℕ) → Facts p → AreRoots p s targets → IsBegun p s v → DeskOk p v
    → k < length p.entries → IsReached p targets k → Unknown v k → first_section p k ≡ s
first_here p s targets v k f roots begun ok there reached unknown =
    let root = roots.only (slice_index targets reached.place) (Contains-get_or targets reached.place 0 reached.there) in
    let low = first_by p root.row k f root.row_there (record {
      tile = root.tile;
      there = root.tile_there;
      reaches = subst (λ j. Reaches p.entries j k) root.is reached.way;
    }) in
    elim (cases_lt (first_section p k) s) [
      | inl less ↦
          let known = ok.knows_made k ((begun.made k there).1 less) in
          absurd (omega (arith, known, unknown))
      | inr more ↦ omega (arith, low, more, root.row_in)
    ]

-- what was gained comes first in the section
gained_here :
    (p : PlanRecord) (s : ℕ) (targets : List ℕ) (v w : DeskView) (k : ℕ) → Facts p → AreRoots p s targets → IsBegun p s v → DeskOk p v
    → Gained p targets v w → ((j : ℕ) → entries j w.won ≡ entries j w.made) → k < length p.entries → entries k v.made < entries k w.made
    → first_section p k ≡ s
gained_here p s targets v w k f roots begun ok g settled there less =
    let from = g.reached k (omega (arith, less, begun.settled k, settled k)) in
    first_here p s targets v k f roots begun ok there from.0 from.1

-- no read of a row's tile was served
roots_same : (p : PlanRecord) (targets : List ℕ) (v w : DeskView) (e : ℕ) → Facts p → DeskOk p w → Gained p targets v w → IsRoot p e
    → entries e w.served ≡ entries e v.served
roots_same p targets v w e f ok g root = elim (cases_lt (entries e v.served) (entries e w.served)) [
  | inl less ↦
      let o = g.ports e less in
      let there = ok.won_within o.0 (omega (arith, ok.backed o.0, o.3)) in
      absurd (apart p e o.0 o.1 root.row root.tile (f.tells.read o.0 o.1 e there o.2).reader root.reader)
  | inr none ↦ omega (arith, none, g.served e)
]

pub still_ungathered :
    (p : PlanRecord) (s : ℕ) (targets : List ℕ) (v w : DeskView) (e : ℕ) → Facts p → IsBegun p s v → DeskOk p w → Gained p targets v w
    → IsRootReadOf p s e → entries e w.served ≡ 0
still_ungathered p s targets v w e f begun ok g at =
    let root = root_kind p s e f at in
    let within = root_within p e f root in
    let same = roots_same p targets v w e f ok g root in
    elim (cases_lt 0 (entries e v.served)) [
      | inl some ↦ let less = (begun.served e within).0 some in absurd (omega (arith, less, root_section p s e f at))
      | inr none ↦ omega (arith, same, none)
    ]

-- ---- all is made

-- what an alias that is made reaches is made
leads_made :
    (p : PlanRecord) (w : DeskView) → TellsReads p → DeskOk p w → w.solo ≡ true
    → ((k port e : ℕ) → 0 < entries k w.made → port_read_of p k port ≡ Some e → 0 < entries e w.served)
    → (reads k last : ℕ) → Leads p.entries reads k last → 0 < entries k w.made → 0 < entries last w.made
unfolding Leads
leads_made p w tells ok solo closed zero k last way made = subst (λ j. 0 < entries j w.made) way made
leads_made p w tells ok solo closed (suc reads) k last way made =
    let there = ok.won_within k (omega (arith, ok.backed k, made)) in
    let has = way.1 in
    let at : slice_get (entry_at p.entries k).inputs has.0 ≡ Some way.0 =
    slice_get-get_or (entry_at p.entries k).inputs has.0 way.0 has.1 ∙ ap (λ n. Some n) has.2 in
    let read = tells.input k has.0 way.0 there at in
    let known = ok.knows_served read.0 (closed k has.0 read.0 made read.1) in
    let next = subst (λ j. 0 < entries j w.made) read.2 (ok.solo_known solo (source_at p read.0) known) in
    leads_made p w tells ok solo closed reads way.0 last way.2 next

-- the reads at ports of what is made are served
made_closed :
    (p : PlanRecord) (s : ℕ) (targets : List ℕ) (v w : DeskView) → Facts p → IsBegun p s v → DeskOk p w → Gained p targets v w
    → (k port e : ℕ) → 0 < entries k w.made → port_read_of p k port ≡ Some e → 0 < entries e w.served
made_closed p s targets v w f begun ok g k port e some is = elim (cases_lt (entries k v.made) (entries k w.made)) [
  | inl new ↦ g.closed k port e new is
  | inr none ↦
      let there = ok.won_within k (omega (arith, ok.backed k, some)) in
      let read = f.tells.read k port e there is in
      let first = (begun.made k there).0 (omega (arith, some, none)) in
      let here = section_here p e (Port k port) read.reader in
      let before = (begun.served e read.within).1 (omega (arith, first, here)) in
      omega (arith, before, g.served e)
]

section_made :
    (p : PlanRecord) (s : ℕ) (targets : List ℕ) (v w : DeskView) (k : ℕ) → Facts p → AreRoots p s targets → IsBegun p s v → DeskOk p w
    → w.solo ≡ true → Gained p targets v w → AreKnown w targets → k < length p.entries → first_section p k ≤ s → 0 < entries k w.made
section_made p s targets v w k f roots begun ok solo g known there le = elim (cases_lt (first_section p k) s) [
  | inl less ↦ let before = (begun.made k there).1 less in omega (arith, before, g.made k)
  | inr more ↦
      let first = f.valid.first k there in
      let root = root_at p (first_row p k) first.tile in
      let at = roots.all root (record {
        row = first_row p k;
        tile = first.tile;
        row_there = f.rows k there;
        row_in = omega (arith, le, more);
        tile_there = first.there;
        is = refl;
      }) in
      let target = subst (λ (j : ℕ). Knows w j) (get_or_default targets at.0 0 root at.1 ∙ at.2) (known at.0 at.1) in
      leads_made p w f.tells ok solo (made_closed p s targets v w f begun ok g) first.reaches.reads root k first.reaches.way
      (ok.solo_known solo root target)
]

-- ---- the section is done

pub section_done :
    (p : PlanRecord) (s : ℕ) (targets : List ℕ) (v w : DeskView) → Facts p → AreRoots p s targets → IsBegun p s v → DeskOk p v → DeskOk p w
    → w.solo ≡ true → Gained p targets v w → ((k : ℕ) → entries k w.won ≡ entries k w.made) → AreKnown w targets → IsDone p s w
section_done p s targets v w f roots begun old ok solo g settled known = record {
  settled = settled;
  made = λ k there. (first k there, section_made p s targets v w k f roots begun ok solo g known there);
  ports = ports;
  earlier = λ e within less. let before = (begun.served e within).1 less in omega (arith, before, g.served e);
  none_later = none_later;
}
  where
    first : (k : ℕ) → k < length p.entries → 0 < entries k w.made → first_section p k ≤ s
    first k there some = elim (cases_lt (entries k v.made) (entries k w.made)) [
      | inl new ↦ let here = gained_here p s targets v w k f roots begun old g settled there new in omega (arith, here)
      | inr none ↦ let before = (begun.made k there).0 (omega (arith, some, none)) in omega (arith, before)
    ]

    ports : (e alias port : ℕ) → e < reads_in p → reader_at p e ≡ Port alias port → first_section p alias ≤ s → 0 < entries e w.served
    ports e alias port within reader le = elim (kind_of p e f.valid f.ports f.roots within) [
      | inl at ↦
          let here = section_here p e (Port at.alias at.port) at.reader in
          let there = section_here p e (Port alias port) reader in
          let made = section_made p s targets v w at.alias f roots begun ok solo g known at.there (omega (arith, here, there, le)) in
          made_closed p s targets v w f begun ok g at.alias at.port e made at.number
      | inr at ↦ absurd (apart p e alias port at.row at.tile reader at.reader)
    ]

    none_later : (e : ℕ) → e < reads_in p → 0 < entries e w.served → read_section p e ≤ s
    none_later e within some = elim (kind_of p e f.valid f.ports f.roots within) [
      | inl at ↦
          let here = section_here p e (Port at.alias at.port) at.reader in
          let of_won = ok.served_of_won e at.alias at.port at.reader in
          let le = first at.alias at.there (omega (arith, some, of_won, settled at.alias)) in
          omega (arith, here, le)
      | inr at ↦
          let same = roots_same p targets v w e f ok g at in
          let before = (begun.served e within).0 (omega (arith, same, some)) in
          omega (arith, before)
    ]

pub made_in :
    (p : PlanRecord) (s : ℕ) (targets : List ℕ) (v w : DeskView) → Facts p → AreRoots p s targets → IsBegun p s v → DeskOk p v → DeskOk p w
    → w.solo ≡ true → Gained p targets v w → ((k : ℕ) → entries k w.won ≡ entries k w.made) → AreKnown w targets → IsMadeIn p s v w
made_in p s targets v w f roots begun old ok solo g settled known = record { here = here; others = others }
  where
    here : (k : ℕ) → k < length p.entries → first_section p k ≡ s → entries k w.made ≡ entries k v.made + 1
    here k there is =
        let some = section_made p s targets v w k f roots begun ok solo g known there (omega (arith, is)) in
        elim (cases_lt 0 (entries k v.made)) [
          | inl before ↦ let less = (begun.made k there).0 before in absurd (omega (arith, less, is))
          | inr none ↦ omega (arith, some, none, settled k, ok.won_once k)
        ]

    others : (k : ℕ) → k < length p.entries → first_section p k ≢ s → entries k w.made ≡ entries k v.made
    others k there differ = elim (cases_lt (entries k v.made) (entries k w.made)) [
      | inl new ↦ absurd (differ (gained_here p s targets v w k f roots begun old g settled there new))
      | inr none ↦ omega (arith, none, g.made k)
    ]
