pub mod Value
pub mod Run
pub mod ValueTypes
pub mod TypeParts
pub mod Claim
