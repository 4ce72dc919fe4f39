-- What whatever happens to a log means, at each moment.
pub mod Events
pub mod Among
pub mod Torn
