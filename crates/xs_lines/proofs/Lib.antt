pub mod LineLists
pub mod PartLemmas
