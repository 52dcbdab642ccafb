-- What the contracts of every call cite of refusals.
pub mod Answers
pub mod Grid
pub mod Reasons
pub mod Rules
pub mod Told
