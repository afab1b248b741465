pub mod UsesByNode
pub mod TermWritten
pub mod TermTurns
pub mod RenamedWords
pub mod LoweredWords
pub mod SubstitutedWords
