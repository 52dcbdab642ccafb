-- What the proofs of several functions share: triangles of the plane, as the tests take them. Assumes nothing.
pub mod PlaneLaws
