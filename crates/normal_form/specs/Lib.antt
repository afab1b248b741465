pub mod Roles
pub mod NormalTest
