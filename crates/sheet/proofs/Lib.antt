pub mod Nodes
pub mod Sections
pub mod Numbers
pub mod PartsLaws
pub mod Ranging
pub mod Records
pub mod Rows
pub mod Written
