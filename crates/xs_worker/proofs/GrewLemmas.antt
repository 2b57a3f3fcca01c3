-- Lemmas on what the calls of a worker add
use Rattle.std.proofs.Common.{◌≡◌, ◌<◌, ◌+◌, ℕ, Option, Some, None, List, [], ◌∷◌, ◌++◌, length, refl, sym, ap, subst, ◌∙◌, inl, inr, arith, append_assoc}
use Rattle.std.proofs.lemmas.Bool.{cases_eq, cases_lt}
use Rattle.std.proofs.lemmas.List.{append-nil}
use Rattle.xs_plan.specs.declared.job.Reader.TheVariants.{Port}
use Rattle.xs_plan.specs.Record.{PlanRecord}
use Rattle.xs_plan.specs.Reads.{port_read_of}
use Rattle.xs_core.specs.Views.{Signed, signed, DeskView, DeskOk, times, entries, Unknown}
use Rattle.xs_core.specs.Calls.{Adds, Stays}
use Rattle.xs_worker.specs.Reading.{TellsReads, listed, port_reads, IsReached}
use Rattle.xs_worker.specs.Claims.{tagged, IsChain, Fits, Grew}
use Rattle.xs_worker.specs.Steps.{Went}
use Rattle.xs_worker.proofs.Lists.{times-same, times-other, times-found, times-one, times-more, times-append, entries-grown, tagged-append}

-- ---- two calls

-- what is added and then more
appended :
    (number other : ℕ) → other ≡ number → (old mid new : List Signed) (a b : List ℕ) → mid ≡ old ++ tagged number a
    → new ≡ mid ++ tagged other b → new ≡ old ++ tagged number (a ++ b)
appended number other same old mid new a b first second =
    second ∙ ap (λ l. l ++ tagged other b) first ∙ append_assoc old (tagged number a) (tagged other b)
    ∙ ap (λ n. old ++ (tagged number a ++ tagged n b)) same ∙ ap (λ l. old ++ l) (sym (tagged-append number a b))

-- what a call adds and then another
pub adds_then :
    (v w x : DeskView) (won made lost served more_won more_made more_lost more_served : List ℕ)
    → Adds v w (tagged v.number won) (tagged v.number made) (tagged v.number lost) (tagged v.number served)
    → Adds w x (tagged w.number more_won) (tagged w.number more_made) (tagged w.number more_lost) (tagged w.number more_served)
    → Adds v x (tagged v.number (won ++ more_won)) (tagged v.number (made ++ more_made)) (tagged v.number (lost ++ more_lost))
    (tagged v.number (served ++ more_served))
adds_then v w x won made lost served more_won more_made more_lost more_served a b = record {
  home = b.home ∙ a.home;
  number = b.number ∙ a.number;
  solo = b.solo ∙ a.solo;
  won = appended v.number w.number a.number v.won w.won x.won won more_won a.won b.won;
  made = appended v.number w.number a.number v.made w.made x.made made more_made a.made b.made;
  lost = appended v.number w.number a.number v.lost w.lost x.lost lost more_lost a.lost b.lost;
  served = appended v.number w.number a.number v.served w.served x.served served more_served a.served b.served;
  knows = λ k known. b.knows k (a.knows k known);
  more = a.more ++ b.more;
  met = b.met ∙ ap (λ l. l ++ b.more) a.met ∙ append_assoc v.met a.more b.more;
}

pub stays_same : (v : DeskView) → Stays v v
stays_same v = record {
  home = refl;
  number = refl;
  solo = refl;
  won = sym (append-nil v.won);
  made = sym (append-nil v.made);
  lost = sym (append-nil v.lost);
  served = sym (append-nil v.served);
  knows = λ k known. known;
  more = [];
  met = sym (append-nil v.met);
}

pub stays_then : (v w x : DeskView) → Stays v w → Stays w x → Stays v x
stays_then v w x a b = adds_then v w x [] [] [] [] [] [] [] [] a b

pub grew_then :
    (p : PlanRecord) (targets : List ℕ) (v w x : DeskView) (b c d more gone : List ℕ) → Grew p targets v w b c [] []
    → Grew p targets w x c d more gone → Grew p targets v x b d more gone
grew_then p targets v w x b c d more gone g h = record {
  won = g.won ++ h.won;
  made = g.made ++ h.made;
  served = g.served ++ h.served;
  adds = adds_then v w x g.won g.made [] g.served h.won h.made gone h.served g.adds h.adds;
  bench = h.bench ∙ ap (λ l. l ++ (h.made ++ more)) g.bench ∙ benches;
  reached = reached;
  ports = ports;
  closed = closed;
}
  where
    benches : (b ++ (g.made ++ [])) ++ (h.made ++ more) ≡ b ++ ((g.made ++ h.made) ++ more)
    benches = simp (append_assoc, append-nil)

    reached : (k : ℕ) → 0 < times k (g.won ++ h.won) → IsReached p targets k × Unknown v k
    reached k some = elim (cases_lt 0 (times k g.won)) [
      | inl before ↦ g.reached k before
      | inr none ↦
          let after = h.reached k (omega (arith, times-append k g.won h.won, some, none)) in (
            after.0,
            elim (cases_lt 0 (times k v.known)) [
              | inl known ↦ let still = g.adds.knows k known in absurd (omega (arith, still, after.1))
              | inr unknown ↦ omega (arith, unknown)
            ],
          )
    ]

    ports : (e : ℕ) → 0 < times e (g.served ++ h.served)
        → (k : ℕ) × (port : ℕ) × (port_read_of p k port ≡ Some e) × (0 < times k (g.made ++ h.made))
    ports e some = elim (cases_lt 0 (times e g.served)) [
      | inl before ↦ let o = g.ports e before in (o.0, o.1, o.2, omega (arith, o.3, times-append o.0 g.made h.made))
      | inr none ↦
          let o = h.ports e (omega (arith, times-append e g.served h.served, some, none)) in
          (o.0, o.1, o.2, omega (arith, o.3, times-append o.0 g.made h.made))
    ]

    closed : (k port e : ℕ) → 0 < times k (g.made ++ h.made) → port_read_of p k port ≡ Some e → 0 < times e (g.served ++ h.served)
    closed k port e some is = elim (cases_lt 0 (times k g.made)) [
      | inl before ↦ omega (arith, g.closed k port e before is, times-append e g.served h.served)
      | inr none ↦ let after = h.closed k port e (omega (arith, times-append k g.made h.made, some, none)) is in omega
          (arith, after, times-append e g.served h.served)
    ]

-- ---- one call

pub none_of : (k : ℕ) → 0 < times k [] → ⊥
none_of k some = let n : 0 < 0 = some in omega (arith, n)

-- the claims still fit where the stack lost what was made or given up, and gained what was won
pub fits_after :
    (p : PlanRecord) (targets stack new : List ℕ) (v w : DeskView) (won made gone served : List ℕ) → Fits p targets stack v
    → Adds v w (tagged v.number won) (tagged v.number made) (tagged v.number gone) (tagged v.number served) → IsChain p targets new
    → ((k : ℕ) → times k new + times k made + times k gone ≡ times k stack + times k won)
    → ((k port e : ℕ) → 0 < times k new → port_read_of p k port ≡ Some e → entries e v.served + times e served ≡ 0)
    → Fits p targets new w
fits_after p targets stack new v w won made gone served fits a chain balance unserved = record {
  chain = chain;
  claims = λ k. omega (
    arith,
    fits.claims k,
    balance k,
    entries-grown k v.number v.won w.won won a.won,
    entries-grown k v.number v.made w.made made a.made,
    entries-grown k v.number v.lost w.lost gone a.lost,
  );
  unserved = λ k port e some is. omega (arith, unserved k port e some is, entries-grown e v.number v.served w.served served a.served);
}

-- nothing was added; the bench may have computed some more
pub went_nowhere :
    (p : PlanRecord) (targets stack : List ℕ) (v w : DeskView) (b c more : List ℕ) → Fits p targets stack v → Stays v w → c ≡ b ++ more
    → Went p targets stack v b stack w c more
went_nowhere p targets stack v w b c more fits stays bench = record {
  grew = record {
    won = [];
    made = [];
    served = [];
    adds = stays;
    bench = bench;
    reached = λ k some. absurd (none_of k some);
    ports = λ e some. absurd (none_of e some);
    closed = λ k port e some is. absurd (none_of k some);
  };
  fits = fits_after p targets stack stack v w [] [] [] [] fits stays fits.chain (λ k. omega arith)
      (λ k port e some is. omega (arith, fits.unserved k port e some is));
}

pub went_won :
    (p : PlanRecord) (targets stack : List ℕ) (v w : DeskView) (b : List ℕ) (k : ℕ) → Fits p targets stack v → TellsReads p → DeskOk p v
    → IsReached p targets k → k < length p.entries → ((j : ℕ) → 0 < times j stack → k < j) → Adds v w (signed v.number k ∷ []) [] [] []
    → entries k v.won ≡ 0 → Unknown v k → Went p targets stack v b (k ∷ stack) w b []
went_won p targets stack v w b k fits tells ok reached there below adds idle unknown = record {
  grew = record {
    won = k ∷ [];
    made = [];
    served = [];
    adds = adds;
    bench = sym (append-nil b);
    reached = λ j some. subst (λ i. IsReached p targets i × Unknown v i) (times-one j k some) (reached, unknown);
    ports = λ e some. absurd (none_of e some);
    closed = λ j port e some is. absurd (none_of j some);
  };
  fits = fits_after p targets stack (k ∷ stack) v w (k ∷ []) [] [] [] fits adds (reached, there, below, fits.chain) balance unserved;
}
  where
    balance : (j : ℕ) → times j (k ∷ stack) + 0 + 0 ≡ times j stack + times j (k ∷ [])
    balance j = elim (cases_eq k j) [
      | inl same ↦
          subst (λ i. times i (k ∷ stack) + 0 + 0 ≡ times i stack + times i (k ∷ [])) same
          (omega (arith, times-same k stack, times-same k []))
      | inr differ ↦ omega (arith, times-other j k stack differ, times-other j k [] differ)
    ]

    unserved : (j port e : ℕ) → 0 < times j (k ∷ stack) → port_read_of p j port ≡ Some e → entries e v.served + 0 ≡ 0
    unserved j port e some is = elim (times-found j k stack some) [
      | inl same ↦
          let read = tells.read k port e there (subst (λ i. port_read_of p i port ≡ Some e) (sym same) is) in
          omega (arith, ok.served_of_won e k port read.reader, idle)
      | inr before ↦ omega (arith, fits.unserved j port e before is)
    ]

-- the reads at ports of an alias that stands on the stack are numbered as those of no other
pub same_reader : (a b port other : ℕ) → Port a port ≡ Port b other → a ≡ b
same_reader a b port other is = cc

reads_at : (p : PlanRecord) (k e : ℕ) → 0 < times e (port_reads p k) → (port : ℕ) × (port_read_of p k port ≡ Some e)
reads_at p k e some = elim (cases_lt 0 (times e (listed (port_read_of p k 0)))) [
  | inl first ↦ (0, of (port_read_of p k 0) first)
  | inr none ↦
      let both = times-append e (listed (port_read_of p k 0)) (listed (port_read_of p k 1)) in
      (1, of (port_read_of p k 1) (omega (arith, both, some, none)))
]
  where
    of : (o : Option ℕ) → 0 < times e (listed o) → o ≡ Some e
    of None some = absurd (none_of e some)
    of (Some x) some = ap Some (times-one e x some)

reads_all : (p : PlanRecord) (k port e : ℕ) → TellsReads p → k < length p.entries → port_read_of p k port ≡ Some e → 0 < times e (port_reads p k)
reads_all p k port e tells there is =
    let read = tells.read k port e there is in
    let both = times-append e (listed (port_read_of p k 0)) (listed (port_read_of p k 1)) in
    elim (cases_eq port 0) [
      | inl zeroth ↦ let first = of (port_read_of p k 0) (subst (λ n. port_read_of p k n ≡ Some e) zeroth is) in omega (arith, both, first)
      | inr differ ↦
          let one : port ≡ 1 = omega (arith, read.port_is, differ) in
          let second = of (port_read_of p k 1) (subst (λ n. port_read_of p k n ≡ Some e) one is) in
          omega (arith, both, second)
    ]
  where
    of : (o : Option ℕ) → o ≡ Some e → 0 < times e (listed o)
    of None is = absurd (cc)
    of (Some x) is = let same : x ≡ e = cc in subst (λ i. 0 < times e (i ∷ [])) (sym same) (omega (arith, times-same e []))

pub chain_there : (p : PlanRecord) (targets stack : List ℕ) (k : ℕ) → IsChain p targets stack → 0 < times k stack → k < length p.entries
chain_there p targets [] k chain some = absurd (none_of k some)
chain_there p targets (x ∷ xs) k chain some = elim (times-found k x xs some) [
  | inl same ↦ omega (arith, same, chain.1)
  | inr before ↦ chain_there p targets xs k chain.3 before
]

pub went_made :
    (p : PlanRecord) (targets stack : List ℕ) (v w : DeskView) (b c : List ℕ) (k : ℕ) → Fits p targets (k ∷ stack) v → TellsReads p
    → Adds v w [] (signed v.number k ∷ []) [] (tagged v.number (port_reads p k)) → c ≡ b ++ k ∷ []
    → Went p targets (k ∷ stack) v b stack w c []
went_made p targets stack v w b c k fits tells adds bench = record {
  grew = record {
    won = [];
    made = k ∷ [];
    served = port_reads p k;
    adds = adds;
    bench = bench;
    reached = λ j some. absurd (none_of j some);
    ports = λ e some. let o = reads_at p k e some in (k, o.0, o.1, omega (arith, times-same k []));
    closed = λ j port e some is. reads_all p k port e tells fits.chain.1
        (subst (λ i. port_read_of p i port ≡ Some e) (sym (times-one j k some)) is);
  };
  fits = fits_after p targets (k ∷ stack) stack v w [] (k ∷ []) [] (port_reads p k) fits adds fits.chain.3 balance unserved;
}
  where
    balance : (j : ℕ) → times j stack + times j (k ∷ []) + 0 ≡ times j (k ∷ stack) + 0
    balance j = elim (cases_eq k j) [
      | inl same ↦
          subst (λ i. times i stack + times i (k ∷ []) + 0 ≡ times i (k ∷ stack) + 0) same
          (omega (arith, times-same k stack, times-same k []))
      | inr differ ↦ omega (arith, times-other j k stack differ, times-other j k [] differ)
    ]

    unserved : (j port e : ℕ) → 0 < times j stack → port_read_of p j port ≡ Some e → entries e v.served + times e (port_reads p k) ≡ 0
    unserved j port e some is =
        let before = fits.unserved j port e (omega (arith, some, times-more j k stack)) is in
        elim (cases_lt 0 (times e (port_reads p k))) [
          | inr none ↦ omega (arith, before, none)
          | inl served ↦
              let o = reads_at p k e served in
              let mine = tells.read k o.0 e fits.chain.1 o.1 in
              let its = tells.read j port e (chain_there p targets stack j fits.chain.3 some) is in
              let same : k ≡ j = same_reader k j o.0 port (sym mine.reader ∙ its.reader) in
              let less = fits.chain.2 j some in
              absurd (omega (arith, same, less))
        ]
