pub mod RedexRows
pub mod RedexSizes
pub mod LetOver
pub mod NodeUnderBinder
pub mod Contracta
pub mod NamedPart
pub mod InsertionSizes
pub mod SameCase
