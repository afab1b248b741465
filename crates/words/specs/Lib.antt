pub mod Shapes
pub mod Ends
pub mod Fronts
pub mod Joined
pub mod Reach
pub mod Depths
pub mod KindCodes
