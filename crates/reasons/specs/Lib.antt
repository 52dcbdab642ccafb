-- When a call on a plate is refused (Rules), and what the functions of this crate promise (Findings).
pub mod Findings
pub mod Rules
