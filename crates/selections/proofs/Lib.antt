mod Choosing
mod Matrices
mod Equating
mod Striding
