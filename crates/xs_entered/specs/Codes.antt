-- Codes of expressions and spreads, by which proofs tell these values apart: an expression is told by the list
-- of its parts, the inputs of each before it
use Rattle.std.specs.Prelude.{◌≡◌, ℕ, zero, suc, ℤ, List, [], ◌∷◌, slice_index_or, refl}
use Rattle.std.specs.Coded.{Coded, code_by, coded_ℕ, coded_ℤ, coded_list, coded×}
use Rattle.std.proofs.Common.{ap, ◌∙◌}
use Rattle.xs_pixel.specs.Channels.{Channels, channels, clear}
use Rattle.xs_pixel.specs.Points.{Point, point, origin}
use Rattle.xs_pixel.specs.declared.operation.Op.{Op}
use Rattle.xs_pixel.specs.declared.operation.Op.TheVariants.{Over, Add, Sub, Mult, Min, Max, MatteIn, MatteOut}
use Rattle.xs_meaning.specs.Expressions.{Expr, Clear, Leaf, Tinted, Card, Pair, Blur}
use Rattle.xs_demand.specs.Same.{place_of_op}
use Rattle.xs_demand.specs.Blocks.{Spread, spread}

-- ---- the parts of an expression

-- an expression without its inputs: its kind, a number, an offset, and pixels
abbrev pub Part : Type 0
Part = ℕ × (ℕ × (Point × List Channels))

abbrev pub op_of_place : ℕ → Op
op_of_place zero = Over
op_of_place (suc zero) = Add
op_of_place (suc (suc zero)) = Sub
op_of_place (suc (suc (suc zero))) = Mult
op_of_place (suc (suc (suc (suc zero)))) = Min
op_of_place (suc (suc (suc (suc (suc zero))))) = Max
op_of_place (suc (suc (suc (suc (suc (suc zero)))))) = MatteIn
op_of_place (suc (suc (suc (suc (suc (suc (suc n))))))) = MatteOut

-- the parts of an expression, before others
abbrev pub parts : Expr → List Part → List Part
parts Clear rest = (0, (0, (origin, []))) ∷ rest
parts (Leaf d at) rest = (1, (d, (at, []))) ∷ rest
parts (Tinted d at tint) rest = (2, (d, (at, tint))) ∷ rest
parts (Card pixel) rest = (3, (0, (origin, pixel ∷ []))) ∷ rest
parts (Pair op a b) rest = parts a (parts b ((4, (place_of_op op, (origin, []))) ∷ rest))
parts (Blur n a) rest = parts a ((5, (n, (origin, []))) ∷ rest)

abbrev pub joined : Op → List Expr → List Expr
joined op [] = []
joined op (b ∷ []) = []
joined op (b ∷ (a ∷ made)) = Pair op a b ∷ made

abbrev pub blurred : ℕ → List Expr → List Expr
blurred n [] = []
blurred n (a ∷ made) = Blur n a ∷ made

-- what a part makes of the last expressions that were made
abbrev pub make : ℕ → ℕ → Point → List Channels → List Expr → List Expr
make zero n at pixels made = Clear ∷ made
make (suc zero) n at pixels made = Leaf n at ∷ made
make (suc (suc zero)) n at pixels made = Tinted n at pixels ∷ made
make (suc (suc (suc zero))) n at pixels made = Card (slice_index_or pixels 0 clear) ∷ made
make (suc (suc (suc (suc zero)))) n at pixels made = joined (op_of_place n) made
make (suc (suc (suc (suc (suc kind))))) n at pixels made = blurred n made

abbrev pub make_all : List Part → List Expr → List Expr
make_all [] made = made
make_all (p ∷ more) made = make_all more (make p.0 p.1.0 p.1.1.0 p.1.1.1 made)

abbrev pub made_of : List Part → Expr
made_of l = slice_index_or (make_all l []) 0 Clear

pub op_again : (op : Op) → op_of_place (place_of_op op) ≡ op
op_again Over = refl
op_again Add = refl
op_again Sub = refl
op_again Mult = refl
op_again Min = refl
op_again Max = refl
op_again MatteIn = refl
op_again MatteOut = refl

pub made_again : (e : Expr) (rest : List Part) (made : List Expr) → make_all (parts e rest) made ≡ make_all rest (e ∷ made)
made_again Clear rest made = refl
made_again (Leaf d at) rest made = refl
made_again (Tinted d at tint) rest made = refl
made_again (Card pixel) rest made = refl
made_again (Pair op a b) rest made =
    made_again a (parts b ((4, (place_of_op op, (origin, []))) ∷ rest)) made
    ∙ made_again b ((4, (place_of_op op, (origin, []))) ∷ rest) (a ∷ made)
    ∙ ap (λ o. make_all rest (Pair o a b ∷ made)) (op_again op)
made_again (Blur n a) rest made = made_again a ((5, (n, (origin, []))) ∷ rest) made

pub expr_again : (e : Expr) → made_of (parts e []) ≡ e
expr_again e = ap (λ l. slice_index_or l 0 Clear) (made_again e [] [])

-- ---- codes

abbrev pub point_code : Coded Point
point_code = code_by (ℤ × ℤ) (coded× coded_ℤ coded_ℤ) (λ p. (p.x, p.y)) (λ p. point p.0 p.1) (λ _. refl)

abbrev pub channels_code : Coded Channels
channels_code =
    code_by ((ℕ × ℕ) × (ℕ × ℕ)) (coded× (coded× coded_ℕ coded_ℕ) (coded× coded_ℕ coded_ℕ)) (λ p. ((p.r, p.g), (p.b, p.m)))
    (λ p. channels p.0.0 p.0.1 p.1.0 p.1.1) (λ _. refl)

abbrev pub part_code : Coded Part
part_code = coded× coded_ℕ (coded× coded_ℕ (coded× point_code (coded_list channels_code)))

abbrev pub expr_code : Coded Expr
expr_code = code_by (List Part) (coded_list part_code) (λ e. parts e []) made_of expr_again

abbrev pub spread_code : Coded Spread
spread_code = code_by (Expr × ℕ) (coded× expr_code coded_ℕ) (λ x. (x.expr, x.growth)) (λ p. spread p.0 p.1) (λ _. refl)

abbrev pub spreads_code : Coded (List Spread)
spreads_code = coded_list spread_code
