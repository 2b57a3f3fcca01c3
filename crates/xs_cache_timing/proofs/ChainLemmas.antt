-- The plan whose aliases each read the one before
use Rattle.std.proofs.Common.{inl, inr, ◌≡◌, ◌<◌, ◌≤◌, ◌+◌, ◌%◌, ℕ, false, List, [], ◌∷◌, ◌++◌, Option, Some, IfSome, All, Contains, length, slice_get, refl, sym, ap, subst, ◌∙◌, arith}
use Rattle.std.proofs.lemmas.Bool.{cases_lt}
use Rattle.std.proofs.lemmas.List.{length_push, get_or_push}
use Rattle.std.proofs.lemmas.List.Elements.{All-push}
use Rattle.xs_rect.specs.Area.{Area}
use Rattle.xs_plan.specs.Record.{Entry, entry_at, no_entry, drawing_of, input_rect, is_clear_job}
use Rattle.xs_plan.specs.Valid.{IsInput, Reaches}
use Rattle.xs_plan.specs.Draft.{Draft, LacksRoots, with_entry, empty_draft}
use Rattle.xs_cache_timing.specs.Chains.{IsChain}

abbrev pub NeedsOne : Entry → Type 0
NeedsOne e = IfSome (drawing_of e.job) (λ d. d < 1)

pub lacks_its_root : (d : Draft) (k : ℕ) (tile : Area) → IsChain d k tile → LacksRoots d
lacks_its_root d k tile chain =
    let none = ap length chain.roots in
    let one = ap length chain.tiles in
    rw (none, chain.rows, one) (omega arith)

-- the last alias may be read by one on the tile
pub may_be_read :
    (d : Draft) (k : ℕ) (tile : Area) (e : Entry) → IsChain d k tile → input_rect e.job e.rect ≡ tile → IsInput d.plan.entries e k
may_be_read d k tile e chain on =
    record { there = omega (arith, chain.last); rect = chain.on ∙ sym on; unclear = chain.unclear }

module _ (itself : (entries : List Entry) (k : ℕ) → Reaches entries k k)
    (input : (entries : List Entry) (k input last : ℕ) → Contains (entry_at entries k).inputs input → Reaches entries input last → Reaches entries k last)
    (more : (entries : List Entry) (e : Entry) (k last : ℕ) → Reaches entries k last → Reaches (entries ++ e ∷ []) k last) where
  pub chain_of_one :
      (tile : Area) (e : Entry) → e.rect ≡ tile → is_clear_job e.job ≡ false → NeedsOne e
      → IsChain (with_entry (empty_draft (tile ∷ []) 1) e) 0 tile
  chain_of_one tile e on unclear needs = record {
    tiles = refl;
    rows = refl;
    roots = refl;
    last = refl;
    on = on;
    unclear = unclear;
    reaches = λ j lt. subst (λ (n : ℕ). Reaches (e ∷ []) 0 n) (let h : 0 ≡ j = omega arith in h) (itself (e ∷ []) 0);
    drawn = All-push NeedsOne [] e (λ i d lt. absurd (omega arith)) needs;
  }

  pub chain_of_more :
      (d : Draft) (k : ℕ) (tile : Area) (e : Entry) → IsChain d k tile → e.rect ≡ tile → is_clear_job e.job ≡ false
      → NeedsOne e → Contains e.inputs k → IsChain (with_entry d e) (k + 1) tile
  chain_of_more d k tile e chain on unclear needs reads =
      record {
        tiles = chain.tiles;
        rows = chain.rows;
        roots = chain.roots;
        last = length_push d.plan.entries e ∙ ap (λ n. n + 1) chain.last;
        on = ap (λ (y : Entry). y.rect) here ∙ on;
        unclear = ap (λ (y : Entry). is_clear_job y.job) here ∙ unclear;
        reaches = reached;
        drawn = All-push NeedsOne d.plan.entries e chain.drawn needs;
      }
    where
      entries : List Entry
      entries = d.plan.entries ++ e ∷ []

      here : entry_at entries (k + 1) ≡ e
      here = get_or_push d.plan.entries e no_entry (k + 1) chain.last

      reached : (j : ℕ) → j < length entries → Reaches entries (k + 1) j
      reached j lt = elim (cases_lt j (k + 1)) [
        | inl before ↦
            input entries (k + 1) k j (subst (λ (y : Entry). Contains y.inputs k) (sym here) reads)
            (more d.plan.entries e k j (chain.reaches j (omega (arith, chain.last, before))))
        | inr past ↦
            let longer = length_push d.plan.entries e in
            subst (λ (n : ℕ). Reaches entries (k + 1) n)
            (let h : k + 1 ≡ j = omega (arith, longer, chain.last, lt, past) in h) (itself entries (k + 1))
      ]
