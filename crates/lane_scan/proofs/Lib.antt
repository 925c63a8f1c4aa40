mod First
mod Places
mod Sums
