use Rattle.std.specs.Prelude.{Bool, true, false}
use Rattle.xs_fault.specs.declared.code.SceneCode.{SceneCode}
use Rattle.xs_fault.specs.declared.code.SceneCode.TheVariants as scene

-- the codes of what checking finds
abbrev pub is_of_checking : SceneCode → Bool
is_of_checking scene.TooMany = true
is_of_checking scene.NoSuchReference = true
is_of_checking scene.Overlap = true
is_of_checking scene.PegCycle = true
is_of_checking scene.NodeCycle = true
is_of_checking scene.SheetCycle = true
is_of_checking code = false
