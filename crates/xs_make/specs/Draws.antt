-- Numbers one after another, each from the state that the one before left
use Rattle.std.specs.Prelude.{ℕ, zero, suc, ◌+◌, ◌*◌, ◌/◌, ◌%◌, ◌^◌}

-- the state that follows a state
unfoldable pub next_state : ℕ → ℕ
next_state x = (x * 6364136223846793005 + 1442695040888963407) % 2 ^ 64

-- the state after so many draws from a state on
unfoldable pub state_after : ℕ → ℕ → ℕ
state_after x zero = x
state_after x (suc draws) = next_state (state_after x draws)

-- the number below a bound that a state gives
unfoldable pub number_of : ℕ → ℕ → ℕ
number_of x bound = x / 2 ^ 33 % bound

-- the number below a bound that a draw gives; the draws from a state on count from 0
abbrev pub drawn : (x draw bound : ℕ) → ℕ
drawn x draw bound = number_of (state_after x (suc draw)) bound
