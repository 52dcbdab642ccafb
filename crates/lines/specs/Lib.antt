-- A line of text (Lines), and text laid into a buffer (Laid).
pub mod Laid
pub mod Lines
