pub mod OnceLemmas
pub mod ByFours
