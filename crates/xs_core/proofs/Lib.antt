pub mod CountLemmas
pub mod StateLemmas
pub mod KeptLemmas
pub mod RunLemmas
pub mod SeatLemmas
