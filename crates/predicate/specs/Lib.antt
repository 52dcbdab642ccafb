-- What the contracts of the predicates cite, beside the refusals of crate `checks`.
pub mod Rules
pub mod Told
pub mod Verdicts
