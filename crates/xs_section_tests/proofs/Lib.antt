pub mod ShortLemmas
pub mod ToldLemmas
