-- How a code is printed.
use Rattle.std.specs.Prelude.{ℕ, List, codes}
use Rattle.xs_fault.specs.declared.code.SceneCode.{SceneCode}
use Rattle.xs_fault.specs.declared.code.SceneCode.TheVariants as code

abbrev pub code_number : SceneCode → ℕ
code_number code.NotJson = 1
code_number code.UnknownKey = 2
code_number code.MissingKey = 3
code_number code.WrongKind = 4
code_number code.OutOfRange = 5
code_number code.NoSuchReference = 6
code_number code.Overlap = 7
code_number code.PegCycle = 8
code_number code.NodeCycle = 9
code_number code.SheetCycle = 10
code_number code.Placement = 11
code_number code.TooMany = 12
code_number code.NoScene = 13
code_number code.TooLong = 14
code_number code.CamerasDiffer = 16

abbrev pub code_name : SceneCode → List ℕ
code_name code.NotJson = codes "NotJson"
code_name code.UnknownKey = codes "UnknownKey"
code_name code.MissingKey = codes "MissingKey"
code_name code.WrongKind = codes "WrongKind"
code_name code.OutOfRange = codes "OutOfRange"
code_name code.NoSuchReference = codes "NoSuchReference"
code_name code.Overlap = codes "Overlap"
code_name code.PegCycle = codes "PegCycle"
code_name code.NodeCycle = codes "NodeCycle"
code_name code.SheetCycle = codes "SheetCycle"
code_name code.Placement = codes "Placement"
code_name code.TooMany = codes "TooMany"
code_name code.NoScene = codes "NoScene"
code_name code.TooLong = codes "TooLong"
code_name code.CamerasDiffer = codes "CamerasDiffer"
