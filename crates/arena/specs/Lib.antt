pub mod Writing
pub mod Bits
pub mod Chain
pub mod Door
