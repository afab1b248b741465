-- What public contracts rest on, in the order of reading.
pub mod MayDrop
pub mod Rules
pub mod Redex
pub mod Reduction
pub mod Sequence
pub mod NormalForm
-- What serves proofs alone.
pub mod Grammar
pub mod Clear
pub mod FitByKinds
