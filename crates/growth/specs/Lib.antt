pub mod Growth
pub mod Tool
pub mod Calls
pub mod Examples
