pub mod Rolling
pub mod Ends
pub mod Claim
