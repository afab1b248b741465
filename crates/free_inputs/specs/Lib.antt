pub mod InputMarks
