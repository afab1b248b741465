pub mod GapMoved
mod LoweredBody
mod RewrittenRedex
mod InPlace
mod TurnIsStep
