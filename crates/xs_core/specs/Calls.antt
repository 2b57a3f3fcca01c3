-- What the calls of a seat tell
use Rattle.std.specs.Prelude.{◌≡◌, ◌<◌, ℕ, true, false, Option, Result, MatchResult, List, [], ◌∷◌, ◌++◌}
use Rattle.xs_base.specs.declared.memory.Memory.{Memory}
use Rattle.xs_pixel.specs.Picture.{Pictures}
use Rattle.xs_plan.specs.Record.{PlanRecord}
use Rattle.xs_plan.specs.Values.{HoldsValue}
use Rattle.xs_raster.specs.declared.tile.Tile.{Tile}
use Rattle.xs_raster.specs.Bitmap.{pixel_of}
use Rattle.xs_core.specs.declared.answer.Claim.{Claim}
use Rattle.xs_core.specs.declared.answer.Claim.TheVariants as claim
use Rattle.xs_core.specs.declared.answer.Look.{Look}
use Rattle.xs_core.specs.declared.answer.Look.TheVariants as look
use Rattle.xs_core.specs.declared.answer.Reading.{Reading}
use Rattle.xs_core.specs.declared.answer.Reading.TheVariants as reading
use Rattle.xs_core.specs.States.{source_at}
use Rattle.xs_core.specs.Views.{Signed, signed, Met, FoundIdle, FoundBusy, FoundLost, FoundInTurn, LeftOpen, Meeting, meeting, DeskView, entries, Knows, Unknown, HasClaimed, lacking}

-- a tile holds the value of an alias; where the pictures are told, its pixels too
abbrev pub HoldsTile : Option Pictures → PlanRecord → ℕ → Tile → Type 0
HoldsTile told p k t = HoldsValue told p k t.alias t.raster.area (λ q. pixel_of t.raster q.x q.y)

-- a call added these entries to the lists of a seat, and changed them in no other way; the cache, the number and whether
-- it is alone are the same, what was known stays known, and what was met stays met
pub record Adds (v w : DeskView) (new_won new_made new_lost new_served : List Signed) : Type 0 where
  pub home : w.home ≡ v.home
  pub number : w.number ≡ v.number
  pub solo : w.solo ≡ v.solo
  pub won : w.won ≡ v.won ++ new_won
  pub made : w.made ≡ v.made ++ new_made
  pub lost : w.lost ≡ v.lost ++ new_lost
  pub served : w.served ≡ v.served ++ new_served
  pub knows : (k : ℕ) → Knows v k → Knows w k
  pub more : List Meeting
  pub met : w.met ≡ v.met ++ more

abbrev pub Stays : DeskView → DeskView → Type 0
Stays v w = Adds v w [] [] [] []

-- the call met this; a seat that is alone need not say so
abbrev pub Meets : DeskView → DeskView → ℕ → Met → Type 0
Meets v w k met = v.solo ≡ false → w.met ≡ v.met ++ meeting k met ∷ []

-- a call for an alias: won where it was idle; else as it was found, which for a seat that is alone its lists tell too
abbrev pub ClaimTells : DeskView → ℕ → Claim → DeskView → Type 0
ClaimTells v k claim.Won w = Adds v w (signed v.number k ∷ []) [] [] [] × (entries k v.won ≡ 0) × Unknown v k
ClaimTells v k claim.Busy w = Stays v w × Meets v w k FoundBusy × (v.solo ≡ true → HasClaimed v k) × Unknown v k
ClaimTells v k claim.Ready w = Stays v w × Knows w k
ClaimTells v k claim.Lost w = Stays v w × Meets v w k FoundLost × (v.solo ≡ true → 0 < entries k v.lost) × Unknown v k

abbrev pub LookTells : DeskView → ℕ → Look → DeskView → Type 0
LookTells v k look.Idle w = Stays v w × Meets v w k FoundIdle × (v.solo ≡ true → entries k v.won ≡ 0) × Unknown v k
LookTells v k look.Busy w = Stays v w × Meets v w k FoundBusy × (v.solo ≡ true → HasClaimed v k) × Unknown v k
LookTells v k look.Ready w = Stays v w × Knows w k
LookTells v k look.Lost w = Stays v w × Meets v w k FoundLost × (v.solo ≡ true → 0 < entries k v.lost) × Unknown v k

abbrev pub FinishTells : DeskView → ℕ → DeskView → Type 0
FinishTells v k w = Adds v w [] (signed v.number k ∷ []) [] [] × Knows w k

abbrev pub AbandonTells : DeskView → ℕ → DeskView → Type 0
AbandonTells v k w = Adds v w [] [] (signed v.number k ∷ []) []

-- a reading: the tile that holds the value of the source; or another seat has the tile just now
abbrev pub ReadingTells : Option Pictures → PlanRecord → DeskView → ℕ → Reading → DeskView → Type 0
ReadingTells told p v e (reading.Got t) w = Stays v w × HoldsTile told p (source_at p e) t
ReadingTells told p v e reading.Turn w = Stays v w × Meets v w (source_at p e) FoundInTurn × (v.solo ≡ false)

abbrev pub ReadTells : Option Pictures → PlanRecord → DeskView → ℕ → Result Reading Memory → DeskView → Type 0
ReadTells told p v e result w = MatchResult result (λ r. ReadingTells told p v e r w) (λ _. Stays v w)

-- so many reads of the source are open after this one
abbrev pub RetireTells : PlanRecord → DeskView → ℕ → ℕ → DeskView → Type 0
RetireTells p v e n w =
    Adds v w [] [] [] (signed v.number e ∷ []) × Meets v w (source_at p e) (LeftOpen n)
    × (v.solo ≡ true → n ≡ lacking p w.served (source_at p e))
