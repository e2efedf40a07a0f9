pub mod Scopes
pub mod ScopesLaws
pub mod Storing
