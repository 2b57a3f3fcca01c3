-- The rule holds of a table in which nothing has happened
use Rattle.std.proofs.Common.{◌≡◌, ◌<◌, ℕ, zero, suc, Bool, true, false, ◌&&◌, ◌==◌, Option, None, List, [], ◌∷◌, length, map, replicate, count_by, refl, sym, ap, subst, ◌∙◌, inl, inr, arith, true≢false}
use Rattle.std.proofs.lemmas.Bool.{cases_eq}
use Rattle.std.proofs.lemmas.List.{length-replicate, length-map, get_or-replicate, take_all}
use mathlib.Core.Option.{some, some-injective, some-ne-none}
use lib.ListN.{get_elem?}
use Rattle.atomic_table.specs.Table.{opening}
use Rattle.xs_pixel.specs.Picture.{Pictures}
use Rattle.xs_plan.specs.Record.{PlanRecord}
use Rattle.xs_plan.specs.Reads.{sources, reads_in, readers_of}
use Rattle.xs_plan.specs.Valid.{IsPlan}
use Rattle.xs_core.specs.States.{source_at}
use Rattle.xs_core.proofs.CountLemmas.{how_many-alike, how_many-places}
use Rattle.xs_word_desk.specs.declared.view.View.{View}
use Rattle.xs_word_desk.specs.Sums.{total}
use Rattle.xs_word_desk.specs.Words.{Unclaimed}
use Rattle.xs_word_desk.specs.Seen.{serves, open_reads}
use Rattle.xs_word_desk.specs.Rule.{Slot, ViewOk, SeatsOk, Holds}
use Rattle.xs_word_desk.specs.Changes.{first_view}
use Rattle.xs_word_desk.proofs.ViewLemmas.{one_at, none_at}

-- so many slots without a tile
abbrev pub no_tiles : ℕ → List Slot
no_tiles n = replicate n None

empty_slots : (n k : ℕ) → k < n → get_elem? (map some (no_tiles n)) k ≡ some (some None)
empty_slots zero k less = absurd (omega arith)
empty_slots (suc n) zero less = refl
empty_slots (suc n) (suc k) less = empty_slots n k (omega arith)

both_true : (b : Bool) → (b && true) ≡ b
both_true true = refl
both_true false = refl

-- every read is open
all_open : (p : PlanRecord) (k : ℕ) → open_reads p (first_view p ∷ []) k ≡ readers_of p k
all_open p k =
    how_many-alike (reads_in p) (λ e. (source_at p e == k) && (total (serves e) (first_view p ∷ []) == 0)) (λ e. source_at p e == k)
    (λ e less. both_true (source_at p e == k))
    ∙ how_many-places (sources p) (λ s. s == k) (reads_in p) (omega arith)
    ∙ ap (count_by (λ s. s == k)) (take_all (reads_in p) (sources p) (omega arith))

pub first_ok : (p : PlanRecord) → ViewOk p (first_view p)
first_ok p = record {
  backed = λ k. omega arith;
  owned = λ e. omega arith;
  knows_made = λ k there_is. absurd (omega arith);
  knows_served = λ e there_is. absurd (omega arith);
  within = λ k there_is. absurd (omega arith);
  reads_within = λ e there_is. absurd (omega arith);
  won_named = λ named k. refl;
  made_named = λ named k. refl;
  lost_named = λ named k. refl;
  served_named = λ named e. refl;
  gone = λ dead. absurd (true≢false dead);
}

pub only_first : (p : PlanRecord) (id : ℕ) (v : View) → get_elem? (first_view p ∷ []) id ≡ some v → (id ≡ 0) × (first_view p ≡ v)
only_first p zero v at = (refl, some-injective (first_view p) v at)
only_first p (suc id) v at = absurd (some-ne-none v (sym at))

first_seats : (p : PlanRecord) → SeatsOk (first_view p ∷ [])
first_seats p = record {
  chief = first_view p;
  first = refl;
  chief_live = refl;
  chief_number = refl;
  many = refl;
  numbers = λ n. elim (cases_eq n 0) [
    | inl same ↦ omega (arith, one_at n 0 same, one_at 0 n (sym same))
    | inr differ ↦ omega (arith, none_at n 0 differ, none_at 0 n (λ same. differ (sym same)))
  ];
  fresh = λ n there_is. absurd (omega arith);
  once = λ n. omega arith;
  positive = (refl, omega arith);
  counted = refl;
  others = λ id v at differ. absurd (differ (only_first p id v at).0);
}

pub opens :
    (told : Option Pictures) (p : PlanRecord) → IsPlan p
    → Holds told p (opening (replicate (length p.entries) 0) (no_tiles (length p.entries)) (first_view p))
opens told p plan = record {
  plan = plan;
  wide = length-replicate (length p.entries) 0;
  deep = length-map (no_tiles (length p.entries)) some ∙ length-replicate (length p.entries) None;
  parts = λ k there. record {
    shape = Unclaimed;
    agrees = record {
      says = get_or-replicate (length p.entries) k 0 0 there;
      won = refl;
      made = refl;
      lost = refl;
      turn = refl;
      leaving = refl;
      counted = all_open p k;
      known = λ there_is. absurd (omega arith);
      lies = (refl, empty_slots (length p.entries) k there);
    };
  };
  views = λ id v at. subst (ViewOk p) (only_first p id v at).1 (first_ok p);
  seats = first_seats p;
}
