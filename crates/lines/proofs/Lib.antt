mod Returns
mod Growth
mod Classes
mod Cuts
mod Steps
