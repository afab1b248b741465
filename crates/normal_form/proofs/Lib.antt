pub mod LeastKinds
pub mod GrammarByParts
pub mod TestedParts
pub mod NormalTests
pub mod IsNormal
