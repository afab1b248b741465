pub mod BetweenTurns
pub mod StepLoop
pub mod PhaseLoop
pub mod TermReduced
pub mod AnswerAndOutput
