mod Blocks
mod Choices
mod Fours
mod Kept
mod Lengths
mod Mixing
mod Products
mod Steps
