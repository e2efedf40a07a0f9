pub mod PublishedCells
pub mod PublishedGet
pub mod PublishedPut
pub mod PublishedWalks
pub mod UpTo
