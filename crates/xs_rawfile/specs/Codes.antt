use Rattle.std.specs.Prelude.{ℕ}
use Rattle.xs_rawfile.specs.declared.fault.LevelCode.{LevelCode}
use Rattle.xs_rawfile.specs.declared.fault.LevelCode.TheVariants.{Magic, Kind, KindDiffers, Size, Place, Length, NotPremultiplied, Absent, TooLong}

-- the number of a code
abbrev pub level_code_number : LevelCode → ℕ
level_code_number Magic = 1
level_code_number Kind = 2
level_code_number KindDiffers = 3
level_code_number Size = 4
level_code_number Place = 5
level_code_number Length = 6
level_code_number (NotPremultiplied pixel) = 7
level_code_number Absent = 8
level_code_number TooLong = 9
