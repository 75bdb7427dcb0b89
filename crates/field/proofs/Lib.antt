pub mod Additive
pub mod Totals
pub mod Vandermonde
pub mod Powers
pub mod WordSteps
pub mod Gaps
