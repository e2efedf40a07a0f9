pub mod Renumbering
pub mod Sheet
pub mod Table
pub mod Reading
pub mod Laws
pub mod Parts
pub mod Records
pub mod Rows
