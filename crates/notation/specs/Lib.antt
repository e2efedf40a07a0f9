pub mod Text
pub mod Grammar
pub mod Calls
pub mod Examples
pub mod Texts
pub mod Reads
pub mod Written
pub mod Numbers
