-- What the contracts of the boxes, normals and planes cite, and those of the crates above. Read Triangles; Boxes and Rows are the
-- vocabulary of the leaves.
pub mod Triangles
pub mod Boxes
pub mod Rows
