pub mod Standing
pub mod OrderLemmas
pub mod WrittenOut
