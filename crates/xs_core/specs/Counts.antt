-- How many numbers pass a test
use Rattle.std.specs.Prelude.{ℕ, zero, suc, ◌+◌, Bool, true, false}

-- 1 where a test passes, else 0
abbrev pub one_if : Bool → ℕ
one_if true = 1
one_if false = 0

-- how many of the numbers below a bound pass a test
unfoldable pub how_many : ℕ → (ℕ → Bool) → ℕ
how_many zero passes = 0
how_many (suc n) passes = how_many n passes + one_if (passes n)
