-- What the contracts of this crate and of the doors cite: the numbers of an answer (Numbers), and what becomes of the buffer (Buffer).
pub mod Numbers
pub mod Buffer
