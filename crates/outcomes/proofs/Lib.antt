pub mod Numbers
pub mod Marks
pub mod OutcomesBy
pub mod BeforeUnits
pub mod BeforeActing
pub mod BeforeCeilings
pub mod RaisedSettings
pub mod WithinSettings
