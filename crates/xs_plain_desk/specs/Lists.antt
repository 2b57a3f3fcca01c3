-- The lists of a seat that is alone, and how they tell of its cache
use Rattle.std.specs.Prelude.{◌≡◌, ◌≤◌, ℕ, Bool, true, false, ◌==◌, List, [], length, map}
use Rattle.xs_plan.specs.declared.job.Reader.TheVariants.{Port}
use Rattle.xs_plan.specs.Record.{PlanRecord}
use Rattle.xs_plan.specs.Reads.{reads_in}
use Rattle.xs_core.specs.declared.state.Phase.{Phase}
use Rattle.xs_core.specs.declared.state.Phase.TheVariants.{Claimed, Ready}
use Rattle.xs_core.specs.Counts.{one_if}
use Rattle.xs_core.specs.States.{World, phase_of, read_of, tile_of, is_started, is_ready, is_lost, is_served, is_in_turn, source_at, reader_at}
use Rattle.xs_core.specs.Views.{Signed, signed, DeskView, times}
use Rattle.xs_plain_desk.specs.Stored.{is_leaving}

-- entries of the chief
abbrev pub by_chief : List ℕ → List Signed
by_chief items = map (λ k. signed 0 k) items

-- the chief alone, with these lists: it knows to be ready what it made, and need not say what it met
abbrev pub chief : List ℕ → List ℕ → List ℕ → List ℕ → DeskView
chief won made lost served =
    record {
      home = 0;
      number = 0;
      solo = true;
      won = by_chief won;
      made = by_chief made;
      lost = by_chief lost;
      served = by_chief served;
      known = made;
      met = [];
    }

-- no seat but the chief has claimed an alias
abbrev pub is_of_chief : Phase → Bool
is_of_chief (Claimed seat) = seat == 0
is_of_chief (Ready seat) = seat == 0
is_of_chief _ = true

-- each alias stands in the lists as its phase says, and each read as its state says; nobody else was there; and between
-- two calls no read is in turn and no tile about to leave
pub record IsListed (p : PlanRecord) (w : World) (won made lost served : List ℕ) : Type 0 where
  pub phases_many : length w.phases ≡ length p.entries
  pub reads_many : length w.reads ≡ reads_in p
  pub tiles_many : length w.tiles ≡ length p.entries
  pub won_is : (k : ℕ) → times k won ≡ one_if (is_started (phase_of w k))
  pub made_is : (k : ℕ) → times k made ≡ one_if (is_ready (phase_of w k))
  pub lost_is : (k : ℕ) → times k lost ≡ one_if (is_lost (phase_of w k))
  pub served_is : (e : ℕ) → times e served ≡ one_if (is_served (read_of w e))
  pub alone : (k : ℕ) → is_of_chief (phase_of w k) ≡ true
  pub no_turn : (e : ℕ) → is_in_turn (read_of w e) ≡ false
  pub no_leaving : (k : ℕ) → is_leaving (tile_of w k) ≡ false
  -- what is served was read of a ready alias, by one that was won
  pub ready : (e : ℕ) → is_served (read_of w e) ≡ true → is_ready (phase_of w (source_at p e)) ≡ true
  pub owned : (e alias port : ℕ) → reader_at p e ≡ Port alias port → is_served (read_of w e) ≡ true
      → is_started (phase_of w alias) ≡ true

-- the lists have room for every alias and every read
pub record HasRoom (p : PlanRecord) (for_won for_made for_lost for_served : ℕ) : Type 0 where
  pub won : length p.entries ≤ for_won
  pub made : length p.entries ≤ for_made
  pub lost : length p.entries ≤ for_lost
  pub served : reads_in p ≤ for_served
