pub mod Stacks
pub mod States
pub mod Room
pub mod Pairs
