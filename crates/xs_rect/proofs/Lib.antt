mod Areas
mod Cuts
mod Spans
