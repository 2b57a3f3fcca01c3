use Rattle.std.specs.Prelude.{ℕ, ◌≤◌}

-- the four channels of a pixel: red, green, blue, and matte, which is its opacity
pub record Channels : Type 0 where
  pub r : ℕ
  pub g : ℕ
  pub b : ℕ
  pub m : ℕ

abbrev pub channels : ℕ → ℕ → ℕ → ℕ → Channels
channels r g b m = record { r = r; g = g; b = b; m = m }

-- premultiplied: no colour exceeds the matte, and the matte is a byte
pub record IsPixel (p : Channels) : Type 0 where
  pub red : p.r ≤ p.m
  pub green : p.g ≤ p.m
  pub blue : p.b ≤ p.m
  pub top : p.m ≤ 255

-- nothing at all: no colour and no matte
abbrev pub clear : Channels
clear = record { r = 0; g = 0; b = 0; m = 0 }
