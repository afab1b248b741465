pub mod UseCounts
pub mod Writes
