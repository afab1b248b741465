pub mod OneMark
pub mod MarksByNode
pub mod FreeInputs
