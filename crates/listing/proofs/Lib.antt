mod Laws
mod Faces
mod Passes
mod Whole
mod Pieces
