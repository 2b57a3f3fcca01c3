mod Blurring
mod TotalLemmas
mod Dividing
mod Lines
mod Squares
