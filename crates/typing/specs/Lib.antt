pub mod Infer
pub mod NodeTypes
pub mod TableChecks
pub mod TermChecks
pub mod Refusals
