-- What the word of an alias says
use Rattle.std.specs.Prelude.{◌≡◌, ℕ, zero, suc, ◌+◌, ◌*◌, Bool, true, false}
use Rattle.xs_core.specs.declared.answer.Claim.{Claim}
use Rattle.xs_core.specs.declared.answer.Claim.TheVariants as claim
use Rattle.xs_core.specs.declared.answer.Look.{Look}
use Rattle.xs_core.specs.declared.answer.Look.TheVariants as look
use Rattle.xs_core.specs.Counts.{one_if}

-- nobody has claimed the alias; a seat has, and is at it; that seat has given it up; or that seat has finished it, and
-- then: whether its tile is in turn, whether it was let go after the last read, and how many of its reads are open
pub data Shape : Type 0 where
  Unclaimed : Shape
  Taken : Shape
  GivenUp : Shape
  Finished : (turn cleared : Bool) (reads : ℕ) → Shape

-- the bits: 0, 1 and 2 for the first three; else bits 0 and 1 set, bit 2 the turn, bit 3 the letting go, and above them
-- the open reads
abbrev pub encode : Shape → ℕ
encode Unclaimed = 0
encode Taken = 1
encode GivenUp = 2
encode (Finished turn cleared reads) = reads * 16 + 8 * one_if cleared + 4 * one_if turn + 3

-- ---- what the seats' lists hold of an alias with such a word

-- how often it stands among what was won, made and lost
abbrev pub won_in : Shape → ℕ
won_in Unclaimed = 0
won_in _ = 1

abbrev pub made_in : Shape → ℕ
made_in (Finished turn cleared reads) = 1
made_in _ = 0

abbrev pub lost_in : Shape → ℕ
lost_in GivenUp = 1
lost_in _ = 0

-- how many seats have it in turn
abbrev pub turn_in : Shape → ℕ
turn_in (Finished turn cleared reads) = one_if turn
turn_in _ = 0

-- by how many seats its tile is leaving, where so many reads are open: by one after the last read, until it is let go
abbrev pub leaving_of : (cleared : Bool) (reads : ℕ) → ℕ
leaving_of false zero = 1
leaving_of false (suc reads) = 0
leaving_of true reads = 0

abbrev pub leaving_in : Shape → ℕ
leaving_in (Finished turn cleared reads) = leaving_of cleared reads
leaving_in _ = 0

-- how many of its reads are open, of so many that there are: all of them until it is finished
abbrev pub open_in : ℕ → Shape → ℕ
open_in readers (Finished turn cleared reads) = reads
open_in readers _ = readers

-- ---- what a seat is answered

abbrev pub IsClaimAnswer : Shape → Claim → Type 0
IsClaimAnswer Unclaimed answer = answer ≡ claim.Won
IsClaimAnswer Taken answer = answer ≡ claim.Busy
IsClaimAnswer GivenUp answer = answer ≡ claim.Lost
IsClaimAnswer (Finished turn cleared reads) answer = answer ≡ claim.Ready

abbrev pub IsLookAnswer : Shape → Look → Type 0
IsLookAnswer Unclaimed answer = answer ≡ look.Idle
IsLookAnswer Taken answer = answer ≡ look.Busy
IsLookAnswer GivenUp answer = answer ≡ look.Lost
IsLookAnswer (Finished turn cleared reads) answer = answer ≡ look.Ready
