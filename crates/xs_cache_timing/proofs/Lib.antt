mod BlockLemmas
mod ChainLemmas
