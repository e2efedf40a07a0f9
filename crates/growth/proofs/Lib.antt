pub mod Tags
pub mod Calls
pub mod Counts
pub mod Grows
pub mod Tally
pub mod Tool
