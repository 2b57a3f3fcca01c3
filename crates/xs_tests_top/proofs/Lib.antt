mod SmallPlans
