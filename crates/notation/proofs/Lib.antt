pub mod Deep
pub mod Derives
pub mod Fronts
pub mod Laws
pub mod Numbers
pub mod ReadsLaws
pub mod Written
