pub mod Digits
pub mod Steps
pub mod Reader
pub mod Turns
pub mod Returns
pub mod Writer
pub mod WriterTurns
