pub mod Accepts
pub mod Laws
pub mod Examples
