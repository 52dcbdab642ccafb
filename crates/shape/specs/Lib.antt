-- What the words of documents 01 and 02 mean, over the whole numbers: no grid, no machine, no code.
pub mod Points
pub mod Signs
pub mod Sharing
pub mod Flat
pub mod Lists
pub mod Verdicts
pub mod Inside
pub mod Shells
pub mod Normals
pub mod PlaneTest
pub mod SpaceTest
pub mod WireTest
pub mod InsideTest
pub mod TriangleLists
pub mod Bench
