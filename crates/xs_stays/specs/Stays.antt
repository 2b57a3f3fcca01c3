-- What of a spot the offset under which it stands and the styles that are dropped above it may change
use Rattle.std.specs.Prelude.{◌≡◌, ℕ, Bool, true, false, not, ◌&&◌, ◌||◌, Option, Some, None, is_none, if◌then◌else◌}
use Rattle.xs_pixel.specs.Points.{Point, origin}
use Rattle.xs_meaning.specs.Drawings.{colours_of, number_of}
use Rattle.xs_meaning.specs.Expressions.{Staying, Both, First, Second, Neither, staying}
use Rattle.xs_meaning.specs.Palettes.{Dropped, none_dropped, keeping, deleting, pixel_of, style_at, is_clear_pixel}
use Rattle.xs_meaning.specs.Walk.{Interpretation}
use Rattle.xs_scene.specs.Records.{SceneRecord, ColoursRecord}
use Rattle.xs_step.specs.declared.spot.Spot.{Spot}
use Rattle.xs_step.specs.declared.step.Step.{Step}
use Rattle.xs_step.specs.declared.step.Step.TheVariants.{Keep, Delete}
use Rattle.xs_step.specs.Readings.{answer_at, step_by}

-- what stays after clear inputs have vanished: whether a drawing does, and which styles count, that is, which
-- ones a drawing that stays shows unclear
pub record Stay : Type 0 where
  pub drawing : Bool
  pub counts : ℕ → Bool

-- no drawing stays
abbrev pub no_drawing : Stay
no_drawing = record { drawing = false; counts = λ style. false }

-- what stays of what may be clear
abbrev pub stay_or : Option Stay → Stay
stay_or None = no_drawing
stay_or (Some a) = a

abbrev pub either : Stay → Stay → Stay
either a b = record { drawing = a.drawing || b.drawing; counts = λ style. a.counts style || b.counts style }

abbrev pub stay_staying : Staying → Option Stay → Option Stay → Option Stay
stay_staying Both a b = Some (either (stay_or a) (stay_or b))
stay_staying First a b = a
stay_staying Second a b = b
stay_staying Neither a b = None

-- the styles of a palette that are not clear at a row
abbrev pub unclear : Option ColoursRecord → ℕ → Dropped → ℕ → Bool
unclear None row f style = false
unclear (Some c) row f style = not (is_clear_pixel (style_at c row f style))

-- the scene as what stays of it, and None where it is clear. This knows no offset
unfoldable pub by_stay : SceneRecord → Interpretation (Option Stay)
by_stay s =
    record {
      nothing = None;
      drawing =
          λ level index row f.
          Some (record { drawing = true; counts = unclear (colours_of s (number_of s.levels level index)) row f });
      moved = λ q a. a;
      card = λ style. if is_clear_pixel (pixel_of style) then None else Some no_drawing;
      pair = λ op a b. stay_staying (staying op (is_none a) (is_none b)) a b;
      blur = λ n a. a;
    }

-- what stays of a spot, where nothing is dropped above it
unfoldable pub stay_at : SceneRecord → Spot → Option Stay
stay_at s p = answer_at (by_stay s) s p none_dropped

-- what stays where these styles are dropped above
abbrev pub less : Dropped → Option Stay → Option Stay
less f None = None
less f (Some a) = Some (record a { counts = λ style. a.counts style && not (f style) })

-- what stays of a step from a spot, over what stays of other spots
abbrev pub stay_by : SceneRecord → Spot → Step → Option Stay
stay_by s p (Keep next styles) = less (keeping styles none_dropped) (stay_at s next)
stay_by s p (Delete next styles) = less (deleting styles none_dropped) (stay_at s next)
stay_by s p step = step_by (by_stay s) (λ q f. stay_at s q) p none_dropped step

-- two offsets and two sets of dropped styles are alike where these stay: where a drawing stays it is one offset,
-- and each style that counts is dropped in both sets or in neither
pub record AreAlike (a : Stay) (f : Dropped) (o : Point) (g : Dropped) (q : Point) : Type 0 where
  pub offset : a.drawing ≡ true → o ≡ q
  pub dropped : (style : ℕ) → a.counts style ≡ true → f style ≡ g style

-- no offset is told where no drawing stays, and no dropped style that doesn't count
pub record IsNormal (a : Stay) (f : Dropped) (o : Point) : Type 0 where
  pub offset : a.drawing ≡ false → o ≡ origin
  pub dropped : (style : ℕ) → a.counts style ≡ false → f style ≡ false
