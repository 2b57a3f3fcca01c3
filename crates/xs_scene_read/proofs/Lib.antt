mod Lengths
mod Loops
