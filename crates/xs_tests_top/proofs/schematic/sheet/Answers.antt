use Rattle.std.proofs.Common.{◌≡◌, ◌∙◌, ℕ, zero, suc, ◌<◌, List, [], ◌∷◌, All, Option, Some, None, SomeIff, ap, sym, subst, arith}
use Rattle.std.proofs.lemmas.List.Elements.{All-from_recursion}
use Rattle.xs_pixel.specs.declared.operation.Op.TheVariants.{Over, Add}
use Rattle.xs_scene.specs.declared.node.Node.{Node}
use Rattle.xs_scene.specs.declared.node.Node.TheVariants.{Pair, Card, Blur}
use Rattle.xs_scene.specs.declared.node.Ref.TheVariants.{Node as ToNode}
use Rattle.xs_scene.specs.Records.{SheetRecord}
use Rattle.xs_meaning.specs.Ends.{NodesEnd}
use Rattle.xs_schematic.specs.Order.{IsOrderable}
use Rattle.xs_schematic.specs.Visits.{inputs_in}
use Rattle.xs_tests_top.proofs.schematic.sheet.Goals as goal

abbrev tested : List Node
tested =
    Pair Over (ToNode 3) (ToNode 1) ∷ Pair Add (ToNode 4) (ToNode 4) ∷ Blur (ToNode 0) 1 ∷ Blur (ToNode 4) 2
    ∷ Card (record { r = 0; g = 0; b = 0; a = 255 }) ∷ []

inputs : (n : ℕ) → n < 5 → All (λ m. m < 5) (inputs_in tested n)
inputs zero below = All-from_recursion (λ m. m < 5) (3 ∷ 1 ∷ []) (omega arith, (omega arith, tt))
inputs (suc zero) below = All-from_recursion (λ m. m < 5) (4 ∷ 4 ∷ []) (omega arith, (omega arith, tt))
inputs (suc (suc zero)) below = All-from_recursion (λ m. m < 5) (0 ∷ []) (omega arith, tt)
inputs (suc (suc (suc zero))) below = All-from_recursion (λ m. m < 5) (4 ∷ []) (omega arith, tt)
inputs (suc (suc (suc (suc zero)))) below = All-from_recursion (λ m. m < 5) [] tt
inputs (suc (suc (suc (suc (suc n))))) below = absurd (omega arith)

abbrev sheet_of : SheetRecord → List Node → SheetRecord
sheet_of k nodes = record { pegs = k.pegs; columns = k.columns; nodes = nodes; out = k.out }

ends : (k : SheetRecord) (n : ℕ) → n < 5 → NodesEnd (sheet_of k tested) 5 (ToNode n)
unfolding NodesEnd
ends k zero below = (tt, (tt, tt))
ends k (suc zero) below = (tt, tt)
ends k (suc (suc zero)) below = (tt, (tt, tt))
ends k (suc (suc (suc zero))) below = tt
ends k (suc (suc (suc (suc zero)))) below = tt
ends k (suc (suc (suc (suc (suc n))))) below = absurd (omega arith)

orderable : (k : SheetRecord) → k.nodes ≡ tested → IsOrderable k
orderable k is =
    subst (λ (nodes : List Node). IsOrderable (sheet_of k nodes)) (sym is)
    (record { few = omega arith; inputs = inputs; ends = ends k })

found : (o : Option SheetRecord) (P : Type 0) (v k : SheetRecord) → SomeIff o P v → o ≡ Some k → k ≡ v
found None P v k iff is = absurd (let e : None ≡ Some k = is in cc)
found (Some x) P v k iff is = let e : x ≡ k = cc in sym e ∙ iff.1

pub returns : goal.returns
returns c =
    let sheet = found c.new-sheet.result _ _ c.in_ok-ok_or.field-0 c.new-sheet.ensures c.in_ok-ok_or.ensures.ok_part in
    orderable c.in_ok-ok_or.field-0
    (ap (λ (k : SheetRecord). k.nodes) sheet ∙ c.of-2.ensures ∙ c.in_ok-nodes.ensures.items)
