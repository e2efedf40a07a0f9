pub mod JoinAnswer
pub mod JoinWritten
pub mod JoinStages
