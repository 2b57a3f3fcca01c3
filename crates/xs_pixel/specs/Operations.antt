use Rattle.std.specs.Prelude.{ℕ, ◌+◌, ◌-◌, ◌*◌, ◌/◌, min, max}
use Rattle.xs_pixel.specs.Channels.{Channels}
use Rattle.xs_pixel.specs.declared.operation.Op.{Op}
use Rattle.xs_pixel.specs.declared.operation.Op.TheVariants.{Over, Add, Sub, Mult, Min, Max, MatteIn, MatteOut}

-- the product of two channels, as parts of 255, rounded to the nearest whole number
unfoldable pub product : ℕ → ℕ → ℕ
product x y = (x * y + 127) / 255

-- a channel of the result from that channel and the matte of the upper pixel, and of the lower one
abbrev pub by_channel : (ℕ → ℕ → ℕ → ℕ → ℕ) → Channels → Channels → Channels
by_channel f u d =
    record
    { r = f u.r u.m d.r d.m; g = f u.g u.m d.g d.m; b = f u.b u.m d.b d.m; m = f u.m u.m d.m d.m }

-- the upper pixel laid over the lower one, after Porter and Duff
abbrev pub over_of : Channels → Channels → Channels
over_of = by_channel (λ u um d dm. u + product d (255 - um))

abbrev pub add_of : Channels → Channels → Channels
add_of = by_channel (λ u um d dm. min 255 (u + d))

-- the colours of the upper pixel taken away from the lower one, which keeps its matte
abbrev pub sub_of : Channels → Channels → Channels
sub_of u d = record { r = d.r - u.r; g = d.g - u.g; b = d.b - u.b; m = d.m }

abbrev pub mult_of : Channels → Channels → Channels
mult_of = by_channel (λ u um d dm. product u d)

abbrev pub min_of : Channels → Channels → Channels
min_of = by_channel (λ u um d dm. min u d)

abbrev pub max_of : Channels → Channels → Channels
max_of = by_channel (λ u um d dm. max u d)

-- a pixel with each channel multiplied by a part of 255
abbrev pub faded_of : Channels → ℕ → Channels
faded_of u part =
    record { r = product u.r part; g = product u.g part; b = product u.b part; m = product u.m part }

-- the upper pixel where the lower one has matte
abbrev pub matte_in_of : Channels → Channels → Channels
matte_in_of u d = faded_of u d.m

-- the upper pixel where the lower one has no matte
abbrev pub matte_out_of : Channels → Channels → Channels
matte_out_of u d = faded_of u (255 - d.m)

-- the table of the eight operations
abbrev pub apply_of : Op → Channels → Channels → Channels
apply_of Over = over_of
apply_of Add = add_of
apply_of Sub = sub_of
apply_of Mult = mult_of
apply_of Min = min_of
apply_of Max = max_of
apply_of MatteIn = matte_in_of
apply_of MatteOut = matte_out_of

-- a straight style (red, green, blue, matte) as a premultiplied pixel
abbrev pub premultiplied : ℕ → ℕ → ℕ → ℕ → Channels
premultiplied r g b a = record { r = product r a; g = product g a; b = product b a; m = a }
