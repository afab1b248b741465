pub mod ValueByNode
pub mod InsertionFits
pub mod FirstOperand
pub mod RuleFits
pub mod ForwardScan
pub mod MarkedUses
pub mod NodeMayDrop
pub mod OpenMarks
pub mod FirstByMarks
pub mod RowInTwo
pub mod UnusedRows
pub mod UnusedSteps
pub mod UnusedNodes
mod FirstRedexFound
