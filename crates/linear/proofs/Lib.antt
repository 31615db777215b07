-- Laws of the basis, for every crate above; and of the largest magnitude.
mod Larger
