pub mod StoreLemmas
pub mod ListLemmas
