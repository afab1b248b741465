pub mod Reductions
pub mod Answers
