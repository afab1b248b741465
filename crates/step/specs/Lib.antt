pub mod Gaps
pub mod Currents
pub mod Rewrites
pub mod Turns
