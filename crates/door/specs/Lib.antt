-- What the contracts of the doors cite beside the crates below: the doors of the verdict calls and of the listing (Doors).
pub mod Doors
