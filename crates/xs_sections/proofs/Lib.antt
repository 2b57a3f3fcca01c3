pub mod DrawnLemmas
pub mod LeadLemmas
pub mod OrderLemmas
pub mod RowLemmas
