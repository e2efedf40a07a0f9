pub mod Starts
pub mod NewPlan
