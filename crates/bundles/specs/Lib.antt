pub mod BytesPut
pub mod FirstLine
pub mod Digits
