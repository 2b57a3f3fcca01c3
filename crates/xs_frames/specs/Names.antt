-- The names of frames
use Rattle.std.specs.Prelude.{ℕ, ◌/◌, ◌%◌, List, ◌++◌, codes, decimal}

-- the name of the frame of a row, which is told in four digits
unfoldable pub frame_name_of : List ℕ → ℕ → List ℕ
frame_name_of base row =
    base ++ codes "." ++ decimal (row / 1000) ++ decimal (row / 100 % 10) ++ decimal (row / 10 % 10) ++ decimal (row % 10) ++ codes ".xfr"
