-- A list is read again if its elements are.
use Rattle.std.proofs.Common.{◌≡◌, ℕ, ◌+◌, List, [], ◌∷◌, map, All, Ok, refl}
use Rattle.std.proofs.lemmas.List.Elements.{All-head, All-tail}
use Rattle.serde_json.specs.Data.{Data}
use Rattle.serde_json.specs.View.{items_of}
use Rattle.xs_fault.specs.Paths.{index_at}
use Rattle.xs_json.specs.Parsing.{Parsed}
use Rattle.xs_scene_text.specs.Fields.{each_at, list_of}
use Rattle.xs_scene_text.specs.SceneData.{IsReadAgain, list_data}

each_again : {A : Type 0} (reading : List ℕ → Data → Parsed A) (written : A → Data) (xs : List A) (at : List ℕ) (i : ℕ)
    → All (IsReadAgain reading written) xs → each_at reading at i (items_of (map written xs)) ≡ Ok xs
each_again reading written [] at i again = refl
each_again reading written (x ∷ xs) at i again =
    rw (
      All-head (IsReadAgain reading written) x xs again (index_at at i),
      each_again reading written xs at (i + 1) (All-tail (IsReadAgain reading written) x xs again),
    )
    refl

-- a list whose elements are
pub list_again : {A : Type 0} (reading : List ℕ → Data → Parsed A) (written : A → Data) (xs : List A)
    → All (IsReadAgain reading written) xs → IsReadAgain (list_of reading) (list_data written) xs
list_again reading written xs again at = each_again reading written xs at 0 again
