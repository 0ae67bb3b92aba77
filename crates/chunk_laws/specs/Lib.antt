pub mod Laws
pub mod Rooms
pub mod Storable
pub mod Told
