use Rattle.std.proofs.Common.{ℕ, ◌-◌, ◌≤◌, arith}
use Rattle.xs_pixel.specs.Channels.{Channels, IsPixel}
use Rattle.xs_pixel.specs.Operations.{product, over_of, add_of, sub_of, mult_of, min_of, max_of, faded_of, premultiplied, apply_of}
use Rattle.xs_pixel.specs.declared.operation.Op.{Op}
use Rattle.xs_pixel.specs.declared.operation.Op.TheVariants.{Over, Add, Sub, Mult, Min, Max, MatteIn, MatteOut}
use Rattle.xs_pixel.proofs.Products.{product_le_left, product_le_right, product_le_product, product_le_both, over_le_255}

-- Each operation on pixels gives a pixel.

pub IsPixel-over_of : (u d : Channels) → IsPixel u → IsPixel d → IsPixel (over_of u d)
IsPixel-over_of u d upper lower =
    let shown : (c : ℕ) → c ≤ d.m → product c (255 - u.m) ≤ product d.m (255 - u.m) =
    λ c less. product_le_product c d.m (255 - u.m) less
    in
    record {
      red = omega (arith, upper.red, shown d.r lower.red);
      green = omega (arith, upper.green, shown d.g lower.green);
      blue = omega (arith, upper.blue, shown d.b lower.blue);
      top = over_le_255 u.m d.m upper.top lower.top;
    }

IsPixel-add_of : (u d : Channels) → IsPixel u → IsPixel d → IsPixel (add_of u d)
IsPixel-add_of u d upper lower =
    record {
      red = omega (arith, upper.red, lower.red);
      green = omega (arith, upper.green, lower.green);
      blue = omega (arith, upper.blue, lower.blue);
      top = omega arith;
    }

IsPixel-sub_of : (u d : Channels) → IsPixel u → IsPixel d → IsPixel (sub_of u d)
IsPixel-sub_of u d upper lower =
    record {
      red = omega (arith, lower.red);
      green = omega (arith, lower.green);
      blue = omega (arith, lower.blue);
      top = lower.top;
    }

pub IsPixel-faded_of : (u : Channels) (part : ℕ) → IsPixel u → part ≤ 255 → IsPixel (faded_of u part)
IsPixel-faded_of u part upper within =
    record {
      red = product_le_product u.r u.m part upper.red;
      green = product_le_product u.g u.m part upper.green;
      blue = product_le_product u.b u.m part upper.blue;
      top = omega (arith, product_le_left u.m part within, upper.top);
    }

pub IsPixel-mult_of : (u d : Channels) → IsPixel u → IsPixel d → IsPixel (mult_of u d)
IsPixel-mult_of u d upper lower =
    record {
      red = product_le_both u.r u.m d.r d.m upper.red lower.red;
      green = product_le_both u.g u.m d.g d.m upper.green lower.green;
      blue = product_le_both u.b u.m d.b d.m upper.blue lower.blue;
      top = omega (arith, product_le_left u.m d.m lower.top, upper.top);
    }

IsPixel-min_of : (u d : Channels) → IsPixel u → IsPixel d → IsPixel (min_of u d)
IsPixel-min_of u d upper lower =
    record {
      red = omega (arith, upper.red, lower.red);
      green = omega (arith, upper.green, lower.green);
      blue = omega (arith, upper.blue, lower.blue);
      top = omega (arith, upper.top);
    }

IsPixel-max_of : (u d : Channels) → IsPixel u → IsPixel d → IsPixel (max_of u d)
IsPixel-max_of u d upper lower =
    record {
      red = omega (arith, upper.red, lower.red);
      green = omega (arith, upper.green, lower.green);
      blue = omega (arith, upper.blue, lower.blue);
      top = omega (arith, upper.top, lower.top);
    }

pub IsPixel-premultiplied : (r g b a : ℕ) → r ≤ 255 → g ≤ 255 → b ≤ 255 → a ≤ 255 → IsPixel (premultiplied r g b a)
IsPixel-premultiplied r g b a red green blue within =
    record {
      red = product_le_right r a red;
      green = product_le_right g a green;
      blue = product_le_right b a blue;
      top = within;
    }

pub IsPixel-apply_of : (op : Op) (u d : Channels) → IsPixel u → IsPixel d → IsPixel (apply_of op u d)
IsPixel-apply_of Over = IsPixel-over_of
IsPixel-apply_of Add = IsPixel-add_of
IsPixel-apply_of Sub = IsPixel-sub_of
IsPixel-apply_of Mult = IsPixel-mult_of
IsPixel-apply_of Min = IsPixel-min_of
IsPixel-apply_of Max = IsPixel-max_of
IsPixel-apply_of MatteIn = λ u d upper lower. IsPixel-faded_of u d.m upper lower.top
IsPixel-apply_of MatteOut = λ u d upper lower. IsPixel-faded_of u (255 - d.m) upper (omega arith)
