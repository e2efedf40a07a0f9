pub mod Bits
pub mod Examples
pub mod Explain
pub mod Laws
