pub mod Log
pub mod Desk
pub mod Closing
pub mod Turns
pub mod Laws
