pub mod Quoted
pub mod Tokens
pub mod Same
pub mod Laid
pub mod Ahead
