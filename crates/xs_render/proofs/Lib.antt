pub mod EntryLemmas
pub mod LeadLemmas
pub mod RowLemmas
pub mod EndLemmas
pub mod FrameLemmas
pub mod SceneLemmas
