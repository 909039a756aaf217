pub mod Steps
pub mod Cuts
pub mod Places
pub mod Texts
pub mod Numbers
pub mod Rulings
pub mod Jobs
pub mod Blamings
