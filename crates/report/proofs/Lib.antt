pub mod TextLaws
mod Digits
