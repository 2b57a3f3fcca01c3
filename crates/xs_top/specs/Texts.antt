use Rattle.std.specs.Prelude.{ℕ, List, [], ◌∷◌, ◌++◌, codes, decimal}
use Rattle.xs_fault.specs.Codes.{code_number, code_name}
use Rattle.xs_fault.specs.declared.fault.SceneFault.{SceneFault}
use Rattle.xs_fault.specs.declared.fault.FieldFault.{FieldFault}
use Rattle.xs_fault.specs.declared.fault.FieldFault.TheVariants as field
use Rattle.xs_rawfile.specs.Codes.{level_code_number as level_number}
use Rattle.xs_rawfile.specs.declared.fault.LevelCode.{LevelCode}
use Rattle.xs_rawfile.specs.declared.fault.LevelCode.TheVariants as level
use Rattle.xs_dryrun.specs.declared.limits.PlanFault.{PlanFault}
use Rattle.xs_dryrun.specs.declared.limits.PlanFault.TheVariants as plan_fault
use Rattle.xs_dryrun.specs.declared.limits.What.{What}
use Rattle.xs_dryrun.specs.declared.limits.What.TheVariants as what
use Rattle.xs_words.specs.declared.fault.Usage.{Usage}
use Rattle.xs_words.specs.declared.fault.Usage.TheVariants as usage
use Rattle.xs_words.specs.declared.fault.WordsFault.{WordsFault}
use Rattle.xs_words.specs.declared.fault.WordsFault.TheVariants as words
use Rattle.xs_top.specs.declared.status.Status.{Status}
use Rattle.xs_top.specs.declared.status.Status.TheVariants as answers

-- the number with which the program ends
abbrev pub status_number : Status → ℕ
status_number answers.Ok = 0
status_number (answers.Usage usage) = 1
status_number (answers.Scene fault) = 2
status_number (answers.Level drawing code) = 3
status_number answers.ReadFault = 4
status_number answers.WriteFault = 5
status_number answers.Memory = 6
status_number (answers.Limit what limit) = 7
status_number answers.NotYet = 8

abbrev about_word : List ℕ → ℕ → List ℕ → List ℕ
about_word before word behind = (before ++ decimal word) ++ behind

-- what is wrong with the words; words are counted from 1, the command
abbrev pub usage_text_of : Usage → List ℕ
usage_text_of usage.NoCommand = codes "usage 1: no command"
usage_text_of usage.Unknown = codes "usage 2: unknown command"
usage_text_of usage.Count = codes "usage 3: wrong number of words"
usage_text_of (usage.Number word) = about_word (codes "usage 4: word ") word (codes " is not a number")
usage_text_of (usage.Range word) = about_word (codes "usage 5: word ") word (codes " is out of range")
usage_text_of (usage.Name word) = about_word (codes "usage 6: word ") word (codes " is not a name")

-- a path as it is printed: the empty one, of the whole text, has a word
abbrev pub path_text_of : List ℕ → List ℕ
path_text_of [] = codes "(top)"
path_text_of (first ∷ rest) = first ∷ rest

-- what is wrong with a scene, and where
unfoldable pub scene_text_of : SceneFault → List ℕ
scene_text_of fault =
    codes "scene S" ++ decimal (code_number fault.code) ++ codes " at " ++ path_text_of fault.path ++ codes ": " ++ code_name fault.code

-- the pixel that is told with a code, if one is
abbrev pub pixel_text_of : LevelCode → List ℕ
pixel_text_of (level.NotPremultiplied pixel) = codes " at pixel " ++ decimal pixel
pixel_text_of code = []

-- what is wrong with a drawing
unfoldable pub level_text_of : ℕ → LevelCode → List ℕ
level_text_of drawing code =
    codes "drawing " ++ decimal drawing ++ codes ": level code " ++ decimal (level_number code) ++ pixel_text_of code

-- what is too much
abbrev pub what_text_of : What → List ℕ
what_text_of what.Reach = codes "reach"
what_text_of what.Aliases = codes "aliases"
what_text_of what.Reads = codes "reads"
what_text_of what.SectionBytes = codes "section bytes"

-- the limit that is passed
unfoldable pub limit_text_of : What → ℕ → List ℕ
limit_text_of what limit = codes "limit " ++ what_text_of what ++ codes " " ++ decimal limit

-- what the user reads
abbrev pub text_of : Status → List ℕ
text_of answers.Ok = []
text_of (answers.Usage usage) = usage_text_of usage
text_of (answers.Scene fault) = scene_text_of fault
text_of (answers.Level drawing code) = level_text_of drawing code
text_of answers.ReadFault = codes "read fault"
text_of answers.WriteFault = codes "write fault"
text_of answers.Memory = codes "out of memory"
text_of (answers.Limit what limit) = limit_text_of what limit
text_of answers.NotYet = codes "not built yet"

-- the status of a fault of the words
abbrev pub words_status : WordsFault → Status
words_status (words.Usage usage) = answers.Usage usage
words_status words.Memory = answers.Memory

-- the status of a fault of a scene
abbrev pub scene_status : FieldFault → Status
scene_status (field.Fault fault) = answers.Scene fault
scene_status field.Memory = answers.Memory

-- the status of a fault of a plan
abbrev pub plan_status : PlanFault → Status
plan_status (plan_fault.Limit what limit) = answers.Limit what limit
plan_status plan_fault.Memory = answers.Memory
