mod HandLemmas
mod SmallPlans
