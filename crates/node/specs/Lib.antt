pub mod Kinds
pub mod Decoding
pub mod Forms
pub mod Places
pub mod Wide
