mod ListedAnswer
pub mod ResponseBound
