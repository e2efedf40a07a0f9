pub mod Joined
pub mod Levels
pub mod JoinedCalls
pub mod JoinedPuts
pub mod JoinedExamples
