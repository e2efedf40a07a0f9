pub mod Packing
pub mod HandedOut
pub mod Explanations
pub mod Tools
pub mod Readings
pub mod Version
