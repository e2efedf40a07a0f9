pub mod Numbers
pub mod HandedOut
