use Rattle.std.proofs.Common.{ℕ, ℤ, ◌↔◌}
use Rattle.xs_rect.specs.Area.{Area, area, Lies, Holds, IsCommonPart, ShareNoPoint}

-- an area across and up from the common places has the common points
pub common_area :
    (a b : Area) (x y : ℤ) (w h : ℕ) → ((z : ℤ) → Lies x w z ↔ (Lies a.x a.w z × Lies b.x b.w z))
    → ((z : ℤ) → Lies y h z ↔ (Lies a.y a.h z × Lies b.y b.h z)) → IsCommonPart a b (area x y w h)
common_area a b x y w h across up = λ p q. (
  λ (c : Holds (area x y w h) p q).
      let l = (across p).0 c.across in let m = (up q).0 c.up in
      (record { across = l.0; up = m.0 }, record { across = l.1; up = m.1 }),
  λ (both : Holds a p q × Holds b p q).
      record { across = (across p).1 (both.0.across, both.1.across); up = (up q).1 (both.0.up, both.1.up) },
)

-- areas without a common row of points share no point
pub apart_up : (a b : Area) → ((z : ℤ) → Lies a.y a.h z → ¬ Lies b.y b.h z) → ShareNoPoint a b
apart_up a b h = λ x y p q. h y p.up q.up
