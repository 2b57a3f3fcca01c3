use Rattle.std.proofs.Common.{◌≡◌, ℕ, refl, ◌-◌, ◌*◌, ◌≤◌, arith}
use Rattle.std.proofs.Math.Nat.{mul-le-mul_right}
use Rattle.xs_pixel.specs.Channels.{Channels, IsPixel}
use Rattle.xs_cm32.specs.Word.{mixed, tone_of, colour_of}

-- a mix grows with both of its channels
mixed_le_mixed : (tone ink more paint greater : ℕ) → ink ≤ more → paint ≤ greater → mixed tone ink paint ≤ mixed tone more greater
unfolding mixed
mixed_le_mixed tone ink more paint greater inks paints =
    let first : ink * (255 - tone) ≤ more * (255 - tone) = mul-le-mul_right (255 - tone) inks in
    let second : paint * tone ≤ greater * tone = mul-le-mul_right tone paints in
    omega (arith, first, second)

-- a mix of channels is a channel
pub mixed_le_255 : (tone ink paint : ℕ) → tone ≤ 255 → ink ≤ 255 → paint ≤ 255 → mixed tone ink paint ≤ 255
unfolding mixed
mixed_le_255 tone ink paint within inks paints =
    let first : ink * (255 - tone) ≤ 255 * (255 - tone) = mul-le-mul_right (255 - tone) inks in
    let second : paint * tone ≤ 255 * tone = mul-le-mul_right tone paints in
    omega (arith, first, second)

-- the mix of two pixels is a pixel
pub IsPixel-colour_of : (w : ℕ) (ink paint : Channels) → IsPixel ink → IsPixel paint → IsPixel (colour_of w ink paint)
IsPixel-colour_of w ink paint inks paints =
    record {
      red = mixed_le_mixed (tone_of w) ink.r ink.m paint.r paint.m inks.red paints.red;
      green = mixed_le_mixed (tone_of w) ink.g ink.m paint.g paint.m inks.green paints.green;
      blue = mixed_le_mixed (tone_of w) ink.b ink.m paint.b paint.m inks.blue paints.blue;
      top = mixed_le_255 (tone_of w) ink.m paint.m (omega arith) inks.top paints.top;
    }

mixed-0 : (ink paint : ℕ) → mixed 0 ink paint ≡ ink
unfolding mixed
mixed-0 ink paint = omega arith

mixed-255 : (ink paint : ℕ) → mixed 255 ink paint ≡ paint
unfolding mixed
mixed-255 ink paint = omega arith

-- pure ink
pub colour_of-ink : (w : ℕ) (ink paint : Channels) → tone_of w ≡ 0 → colour_of w ink paint ≡ ink
colour_of-ink w ink paint pure =
    rw (pure, mixed-0 ink.r paint.r, mixed-0 ink.g paint.g, mixed-0 ink.b paint.b, mixed-0 ink.m paint.m) refl

-- pure paint
pub colour_of-paint : (w : ℕ) (ink paint : Channels) → tone_of w ≡ 255 → colour_of w ink paint ≡ paint
colour_of-paint w ink paint pure =
    rw (pure, mixed-255 ink.r paint.r, mixed-255 ink.g paint.g, mixed-255 ink.b paint.b, mixed-255 ink.m paint.m) refl
