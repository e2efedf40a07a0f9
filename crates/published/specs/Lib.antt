pub mod Published
pub mod PublishedCost
