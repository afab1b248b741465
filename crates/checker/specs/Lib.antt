pub mod Answers
pub mod Nodes
pub mod Places
pub mod Residues
pub mod TypeKinds
