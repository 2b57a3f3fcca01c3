use Rattle.std.specs.Prelude.{ℕ, ◌+◌, max, Option, Some, None, unwrap_or, is_none, if◌then◌else◌}
use Rattle.xs_meaning.specs.Expressions.{Expr, Clear, Staying, Both, First, Second, Neither, staying, reach_of}
use Rattle.xs_meaning.specs.Palettes.{pixel_of, is_clear_pixel}
use Rattle.xs_meaning.specs.Walk.{Interpretation}

-- how far beyond a point an expression looks, and None where it is clear
abbrev pub extent_of : Expr → Option ℕ
extent_of Clear = None
extent_of e = Some (reach_of e)

abbrev pub extent_staying : Staying → Option ℕ → Option ℕ → Option ℕ
extent_staying Both a b = Some (max (unwrap_or a 0) (unwrap_or b 0))
extent_staying First a b = a
extent_staying Second a b = b
extent_staying Neither a b = None

-- the extent of a blur of an extent
abbrev pub wider : ℕ → Option ℕ → Option ℕ
wider n None = None
wider n (Some a) = Some (n + a)

-- the scene as extents. These know no offset
unfoldable pub by_extent : Interpretation (Option ℕ)
by_extent =
    record {
      nothing = None;
      drawing = λ level index row f. Some 0;
      moved = λ q a. a;
      card = λ style. if is_clear_pixel (pixel_of style) then None else Some 0;
      pair = λ op a b. extent_staying (staying op (is_none a) (is_none b)) a b;
      blur = λ n a. wider n a;
    }
