pub mod Numbers
pub mod Format
pub mod Starts
pub mod Reading
