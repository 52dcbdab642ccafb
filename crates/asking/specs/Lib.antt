-- The call that a field asks for (Calls), and the field of a call (Writing).
pub mod Calls
pub mod Writing
