mod Writes
mod Places
mod Sizes
mod Extensions
mod Quotients
mod PeeledRows
