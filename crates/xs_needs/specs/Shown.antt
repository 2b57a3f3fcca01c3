use Rattle.std.specs.Prelude.{ℕ, Bool, true, false, not, ◌&&◌, ◌||◌, Option, Some, None, List, [], ◌∷◌, ◌++◌, unwrap_or, is_none, if◌then◌else◌}
use Rattle.xs_meaning.specs.Drawings.{number_of}
use Rattle.xs_meaning.specs.Expressions.{Expr, Clear, Staying, Both, First, Second, Neither, staying, drawings_of}
use Rattle.xs_meaning.specs.Palettes.{none_dropped, pixel_of, is_clear_pixel}
use Rattle.xs_meaning.specs.Walk.{Interpretation}
use Rattle.xs_pixel.specs.declared.operation.Op.{Op}
use Rattle.xs_scene.specs.declared.node.Ref.{Ref}
use Rattle.xs_scene.specs.Records.{SceneRecord, LevelRecord}
use Rattle.xs_step.specs.declared.spot.Spot.{Spot}
use Rattle.xs_step.specs.declared.step.Step.{Step}
use Rattle.xs_step.specs.Readings.{answer_at, step_by}

-- what is shown: None where it is clear, else its drawings in the order of the walk
abbrev pub Showing : Type 0
Showing = Option (List ℕ)

abbrev pub drawings_in : Showing → List ℕ
drawings_in shown = unwrap_or shown []

-- what an expression shows
abbrev pub showing_of : Expr → Showing
showing_of Clear = None
showing_of e = Some (drawings_of e)

abbrev pub showing_staying : Staying → Showing → Showing → Showing
showing_staying Both a b = Some (drawings_in a ++ drawings_in b)
showing_staying First a b = a
showing_staying Second a b = b
showing_staying Neither a b = None

-- the scene as what it shows. This knows no offset and no dropped styles
abbrev pub by_showing : List LevelRecord → Interpretation Showing
by_showing levels =
    record {
      nothing = None;
      drawing = λ level index row f. Some (number_of levels level index ∷ []);
      moved = λ q a. a;
      card = λ style. if is_clear_pixel (pixel_of style) then None else Some [];
      pair = λ op a b. showing_staying (staying op (is_none a) (is_none b)) a b;
      blur = λ n a. a;
    }

-- what a spot shows
unfoldable pub shown : SceneRecord → Spot → Showing
shown s p = answer_at (by_showing s.levels) s p none_dropped

-- the drawings of a spot in the order of the walk
abbrev pub drawings_at : SceneRecord → Spot → List ℕ
drawings_at s p = drawings_in (shown s p)

abbrev pub is_clear_at : SceneRecord → Spot → Bool
is_clear_at s p = is_none (shown s p)

-- what a step from a spot shows, over what other spots show
abbrev pub showing_by : SceneRecord → (Spot → Showing) → Spot → Step → Showing
showing_by s E p step = step_by (by_showing s.levels) (λ q f. E q) p none_dropped step

-- the drawings of columns and nodes that are laid over one another, the topmost one's first
abbrev pub drawings_over : (Ref → Showing) → List Ref → List ℕ
drawings_over E [] = []
drawings_over E (t ∷ ts) = drawings_over E ts ++ drawings_in (E t)

abbrev pub first_stays : Staying → Bool
first_stays Both = true
first_stays First = true
first_stays Second = false
first_stays Neither = false

abbrev pub second_stays : Staying → Bool
second_stays Both = true
second_stays First = false
second_stays Second = true
second_stays Neither = false

-- a pair is clear where each input that stays is
abbrev pub is_clear_pair : Op → (first second : Bool) → Bool
is_clear_pair op first second =
    (not (first_stays (staying op first second)) || first) && (not (second_stays (staying op first second)) || second)
