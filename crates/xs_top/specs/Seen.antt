use Rattle.std.specs.Prelude.{ℕ, List, Option, None}
use Rattle.std.specs.Borrow.{GName}
use Rattle.xs_outside.specs.declared.object.Object.{Object}
use Rattle.xs_top.specs.Trace.{Contents}
use Rattle.xs_levels.specs.Films.{Files}

-- how many faults a library, a shelf and notes had
pub record Faults : Type 0 where
  pub library : ℕ
  pub shelf : ℕ
  pub notes : ℕ

-- what is seen of an outside: the files of its library, where they are told, what the three tell, and their
-- faults
pub record Seen : Type 0 where
  pub files : Option Files
  pub told : Contents
  pub faults : Faults

-- it, from the parts of a library, of a shelf and of notes
abbrev pub seen_of :
    Option Files → Option (List (List ℕ)) → ℕ → Option (List Object) → ℕ → Option (List ℕ) → ℕ → Seen
seen_of files asked library objects shelf written notes = record {
  files = files;
  told = record { asked = asked; shelf = objects; notes = written; sum = None };
  faults = record { library = library; shelf = shelf; notes = notes };
}

-- the names of the borrows of a library, of a shelf and of notes
pub record Names : Type 0 where
  pub library : GName
  pub shelf : GName
  pub notes : GName

-- an outside as contracts see it
pub record OutsideRecord : Type 0 where
  pub seen : Seen
  pub names : Names
