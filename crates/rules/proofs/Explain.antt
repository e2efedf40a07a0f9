pub mod Examples
pub mod Nodes
pub mod Erasure
pub mod Calls
pub mod Chain
