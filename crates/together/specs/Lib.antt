pub mod Trip
pub mod RoundTrips
pub mod Undone
