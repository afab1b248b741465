pub mod Sizes
pub mod Plans
pub mod Insertion
pub mod Writers
