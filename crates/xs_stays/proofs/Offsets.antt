-- The expressions of a scene, by the styles that are dropped above and the offset
use Rattle.std.proofs.Common.{◌≡◌, ◌||◌, refl, ap, ap₂}
use mathlib.Core.Path.{fun_ext}
use Rattle.xs_pixel.specs.Points.{Point, plus}
use Rattle.xs_scene.specs.Records.{SceneRecord}
use Rattle.xs_meaning.specs.Drawings.{colours_of, number_of}
use Rattle.xs_meaning.specs.Expressions.{Expr, Clear, pair_of, blur_of, card_of, leaf_by, by_offsets}
use Rattle.xs_meaning.specs.Palettes.{Dropped, none_dropped, pixel_of}
use Rattle.xs_meaning.specs.Walk.{Interpretation, sheet_at}
use Rattle.xs_meaning.proofs.Agree.{Agrees, whole_row-agrees, whole_input-agrees, meets-any}
use Rattle.xs_step.specs.declared.spot.At.{At}
use Rattle.xs_step.specs.declared.spot.At.TheVariants.{Row, Input}
use Rattle.xs_step.specs.declared.spot.Spot.{Spot}
use Rattle.xs_step.specs.Readings.{answer_in, answer_at}
use Rattle.xs_stays.proofs.SpotStays.{IsWith, with-keep, with-delete}

-- dropped styles are those that are dropped on the way and those that are dropped above
unfoldable pub by_above : SceneRecord → Interpretation (Dropped → Point → Expr)
by_above s =
    record {
      nothing = λ f o. Clear;
      drawing =
          λ level index row h f o.
          let d = number_of s.levels level index in
          leaf_by (colours_of s d) d row (λ style. h style || f style) o;
      moved = λ q e f o. e f (plus o q);
      card = λ style f o. card_of (pixel_of style);
      pair = λ op a b f o. pair_of op (a f o) (b f o);
      blur = λ n a f o. blur_of n (a f o);
    }

agrees :
    (s : SceneRecord) (above : Dropped)
    → Agrees (by_offsets s) (by_above s) (λ d a e. (o : Point) → a o ≡ e above o) (IsWith above) (λ style. Unit {0}) (λ q. Unit {0})
unfolding by_offsets by_above
agrees s above =
    record {
      nothing = λ d o. refl;
      drawing = λ d level index row f g is o.
          let number = number_of s.levels level index in
          ap (λ (h : Dropped). leaf_by (colours_of s number) number row h o) (fun_ext is);
      moved = λ d q a e place same o. same (plus o q);
      card = λ d style bytes o. refl;
      pair = λ d op a a' e e' first second o. ap₂ (pair_of op) (first o) (second o);
      blur = λ d n a e same o. ap (blur_of n) (same o);
      keep = with-keep above;
      delete = with-delete above;
    }

pub answer-above :
    (s : SceneRecord) (p : Spot) (f : Dropped) (o : Point)
    → answer_at (by_offsets s) s p f o ≡ answer_at (by_above s) s p none_dropped f o
unfolding answer_at
answer-above s p f o = by_place p.at
  where
    by_place : (at : At)
        → answer_in (by_offsets s) s p.sheet at p.row f o ≡ answer_in (by_above s) s p.sheet at p.row none_dropped f o
    by_place Row =
        whole_row-agrees (by_offsets s) (by_above s) (λ d a e. (o : Point) → a o ≡ e f o) (IsWith f) (λ style. Unit {0}) (λ q. Unit {0})
        (agrees s f) s.sheets (λ j. meets-any (sheet_at s.sheets j)) p.sheet p.row f none_dropped (λ style. refl) o
    by_place (Input n) =
        whole_input-agrees (by_offsets s) (by_above s) (λ d a e. (o : Point) → a o ≡ e f o) (IsWith f) (λ style. Unit {0}) (λ q. Unit {0})
        (agrees s f) s.sheets (λ j. meets-any (sheet_at s.sheets j)) p.sheet n p.row f none_dropped (λ style. refl) o
