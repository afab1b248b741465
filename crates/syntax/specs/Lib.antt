-- What public contracts rest on, in the order of reading.
pub mod Maybe
pub mod Lists
pub mod Words
pub mod Tables
pub mod Kinds
pub mod Term
pub mod Encoding
pub mod Decoding
pub mod Substitution
pub mod Values
pub mod Positions
pub mod Calls
-- What serves proofs alone.
pub mod Parts
pub mod Shaped
pub mod Under
pub mod PartsUnder
pub mod Pending
