-- Spots that compare as equal are the same
use Rattle.std.proofs.Common.{◌≡◌, true, ◌&&◌, eqb, refl, ap}
use Rattle.std.proofs.lemmas.Bool.{eqb-true, eq-eqb, and_from, and_parts}
use Rattle.xs_scene.specs.declared.node.Ref.{Ref}
use Rattle.xs_scene.specs.declared.node.Ref.TheVariants.{Column, Node}
use Rattle.xs_scene.specs.contracts.node.RefPartialEq.TheImpl as ref_equality
use Rattle.xs_step.specs.declared.spot.At.{At}
use Rattle.xs_step.specs.declared.spot.At.TheVariants.{Row, Input}
use Rattle.xs_step.specs.declared.spot.Spot.{Spot}
use Rattle.xs_step.specs.contracts.spot.AtPartialEq.TheImpl as at_equality
use Rattle.xs_step.specs.Spots.{same_spot}

ref_exact : (a b : Ref) → (ref_equality.eq-value).it a b ≡ true → a ≡ b
ref_exact (Column c) (Column d) same = ap Column (eqb-true c d same)
ref_exact (Column c) (Node d) same = cc
ref_exact (Node c) (Column d) same = cc
ref_exact (Node c) (Node d) same = ap Node (eqb-true c d same)

at_exact : (a b : At) → (at_equality.eq-value).it a b ≡ true → a ≡ b
at_exact Row Row same = refl
at_exact Row (Input u) same = cc
at_exact (Input t) Row same = cc
at_exact (Input t) (Input u) same = ap Input (ref_exact t u same)

pub exact : (x y : Spot) → same_spot x y ≡ true → x ≡ y
exact x y same =
    let first = and_parts (eqb x.sheet y.sheet) ((at_equality.eq-value).it x.at y.at && eqb x.row y.row) same in
    let rest = and_parts ((at_equality.eq-value).it x.at y.at) (eqb x.row y.row) first.1 in
    let sheet : x.sheet ≡ y.sheet = eqb-true x.sheet y.sheet first.0 in
    let at : x.at ≡ y.at = at_exact x.at y.at rest.0 in
    let row : x.row ≡ y.row = eqb-true x.row y.row rest.1 in
    λ i. record { sheet = sheet i; at = at i; row = row i }

at_same : (a : At) → (at_equality.eq-value).it a a ≡ true
at_same Row = refl
at_same (Input (Column c)) = eq-eqb c c refl
at_same (Input (Node n)) = eq-eqb n n refl

pub same : (p : Spot) → same_spot p p ≡ true
same p =
    and_from _ _ (eq-eqb p.sheet p.sheet refl) (and_from _ _ (at_same p.at) (eq-eqb p.row p.row refl))
