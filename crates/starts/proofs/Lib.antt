pub mod Lookup
pub mod StartsLaws
