pub mod AliveLemmas
pub mod SmallPlans
