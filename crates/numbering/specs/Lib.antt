pub mod Replies
pub mod Counting
pub mod Meeting
pub mod Places
pub mod NumberStages
pub mod Small
