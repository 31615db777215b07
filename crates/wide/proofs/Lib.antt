-- Laws of plain numbers for the proofs of the functions: words of a product, and a quotient by a product.
mod Words
mod Reciprocal
