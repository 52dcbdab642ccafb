-- Laws of doubles that are whole numbers, and of the estimate:
--   Nearest       a natural number rounded to so many binary digits: off by at most half of the last digit kept
--   Rounding      the same of rounding to a format
--   Wholes        doubles that are whole numbers; what an estimate is
--   Products      a product of two is the product of their numbers, rounded
--   Sums          a sum and a difference, likewise
--   Comparing     two compare as their numbers do
--   Errors        how errors add up
--   Sides         the theorem: the estimate of a side is within 15 · 2^40 of it
--   Limit         how far it may be off, as a double
--   Signs         what a number so near to the side tells of it
--   Told          so its sign tells that of the side, where it is farther than that from zero
--   EstimateRows  points and their estimates, by computing
pub mod Nearest
pub mod Rounding
pub mod Wholes
pub mod Products
pub mod Sums
pub mod Comparing
pub mod Errors
pub mod Sides
pub mod Limit
pub mod Signs
pub mod Told
pub mod EstimateRows
