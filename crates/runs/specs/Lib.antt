-- What the contract of a run of calls cites (PlateRuns).
pub mod PlateRuns
