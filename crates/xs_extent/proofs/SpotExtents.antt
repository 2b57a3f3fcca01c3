-- How far spots look is told without offsets and dropped styles, and step by step
use Rattle.std.proofs.Common.{◌≡◌, ℕ, true, Option, Some, None, List, [], ◌∷◌, map, is_none, refl, sym, ap, ap₂, ◌∙◌}
use mathlib.Core.Path.{fun_ext}
use Rattle.xs_pixel.specs.Points.{Point}
use Rattle.xs_pixel.specs.declared.operation.Op.TheVariants.{Over as OverOp}
use Rattle.xs_scene.specs.declared.node.Ref.{Ref}
use Rattle.xs_scene.specs.Records.{SceneRecord}
use Rattle.xs_meaning.specs.Ends.{AllEnd}
use Rattle.xs_meaning.specs.Expressions.{staying}
use Rattle.xs_meaning.specs.Extents.{extent_staying, by_extent}
use Rattle.xs_meaning.specs.Palettes.{Dropped, none_dropped}
use Rattle.xs_meaning.specs.Walk.{sheet_at, whole_row, whole_input, depth_of, composed_by, above_by}
use Rattle.xs_meaning.proofs.Agree.{Agrees, row_walk-agrees, walk-agrees, meets-any}
use Rattle.xs_step.specs.declared.spot.At.{At}
use Rattle.xs_step.specs.declared.spot.At.TheVariants.{Row, Input}
use Rattle.xs_step.specs.declared.spot.Spot.{Spot}
use Rattle.xs_step.specs.Readings.{answer_in, answer_at, step_by}
use Rattle.xs_step.specs.Steps.{step_of}
use Rattle.xs_step.proofs.Readings.{answer-step}
use Rattle.xs_extent.specs.Extent.{extent_at, extent_by}

-- ---- the dropped styles do not matter

alike :
    Agrees by_extent by_extent (λ d a b. a ≡ b) (λ f g. Unit {0}) (λ style. Unit {0}) (λ q. Unit {0})
unfolding by_extent
alike =
    record {
      nothing = λ d. refl;
      drawing = λ d level index row f g same. refl;
      moved = λ d q a b place same. same;
      card = λ d style bytes. refl;
      pair = λ d op a a' b b' first second.
          ap₂ (λ x y. extent_staying (staying op (is_none x) (is_none y)) x y) first second;
      blur = λ d n a b same. ap (by_extent.blur n) same;
      keep = λ styles f g same. tt;
      delete = λ styles f g same. tt;
    }

row-any_dropped :
    (s : SceneRecord) (k row : ℕ) (f g : Dropped)
    → whole_row by_extent s.sheets k row f ≡ whole_row by_extent s.sheets k row g
row-any_dropped s k row f g =
    row_walk-agrees by_extent by_extent (λ d a b. a ≡ b) (λ f g. Unit {0})
    (λ style. Unit {0}) (λ q. Unit {0}) alike s.sheets (λ j. meets-any (sheet_at s.sheets j))
    16 k row f g tt

input-any_dropped :
    (s : SceneRecord) (k : ℕ) (n : Ref) (row : ℕ) (f g : Dropped)
    → whole_input by_extent s.sheets k n row f ≡ whole_input by_extent s.sheets k n row g
input-any_dropped s k n row f g =
    walk-agrees by_extent by_extent (λ d a b. a ≡ b) (λ f g. Unit {0})
    (λ style. Unit {0}) (λ q. Unit {0}) alike
    16 (whole_row by_extent s.sheets) (whole_row by_extent s.sheets)
    (λ j row f g same. row-any_dropped s j row f g)
    (sheet_at s.sheets k) (meets-any (sheet_at s.sheets k)) (depth_of (sheet_at s.sheets k)) n row f g tt

pub answer-any_dropped : (s : SceneRecord) (p : Spot) (f : Dropped) → answer_at by_extent s p f ≡ extent_at s p
unfolding answer_at extent_at
answer-any_dropped s p f = by_place p.at
  where
    by_place : (at : At)
        → answer_in by_extent s p.sheet at p.row f ≡ answer_in by_extent s p.sheet at p.row none_dropped
    by_place Row = row-any_dropped s p.sheet p.row f none_dropped
    by_place (Input n) = input-any_dropped s p.sheet n p.row f none_dropped

-- ---- step by step

pub extent-step :
    (s : SceneRecord) → AllEnd s.sheets → (p : Spot) → extent_at s p ≡ extent_by s p (step_of s p)
unfolding by_extent
extent-step s ends p =
    sym (answer-any_dropped s p none_dropped)
    ∙ answer-step by_extent s same_moved ends p none_dropped
    ∙ ap (λ E. step_by by_extent E p none_dropped (step_of s p))
    (fun_ext (λ q. fun_ext (λ f. answer-any_dropped s q f)))
  where
    same_moved : (q : Point) → by_extent.moved q by_extent.nothing ≡ by_extent.nothing
    same_moved q = refl

-- ---- rows: one over the other

over-nothing : (x : Option ℕ) → extent_staying (staying OverOp (is_none x) true) x None ≡ x
over-nothing None = refl
over-nothing (Some a) = refl

-- a terminal laid over what there was, and the others over that
pub composed-first :
    (E : Ref → Option ℕ) (t : Ref) (ts : List Ref)
    → composed_by by_extent (map E (t ∷ ts)) ≡ above_by by_extent (E t) (map E ts)
composed-first E t ts = refl

pub above-nothing :
    (E : Ref → Option ℕ) (ts : List Ref)
    → above_by by_extent None (map E ts) ≡ composed_by by_extent (map E ts)
unfolding by_extent
above-nothing E [] = refl
above-nothing E (t ∷ ts) = ap (λ was. above_by by_extent was (map E ts)) (over-nothing (E t))
