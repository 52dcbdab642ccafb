-- What the proofs of several functions share:
--   Fits          what holds of every history that calls made
--   Outcomes      from what a plate shows to what its calls promise
--   PartsLaws     what the parts call promises, at each way out
-- and the theorems that stand beside the contracts:
--   Faithful      the arrays tell the slots
--   Demand        demand 3: a plate is the replay of the changes that stand, whatever calls made it
--   Table         each reason exactly in the case that documents 01 and 02 state
--   Unique        no second answer and no second plate
--   PartsVerdict  what a verdict on two parts says, and both ways alike
-- Assumes nothing.
pub mod Fits
pub mod Outcomes
pub mod PartsLaws
pub mod Faithful
pub mod Demand
pub mod Table
pub mod Unique
pub mod PartsVerdict
