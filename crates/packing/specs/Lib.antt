-- What the contracts of this crate cite: numbers out of bytes (Reading) and into bytes (Writing), low byte first.
pub mod Reading
pub mod Writing
