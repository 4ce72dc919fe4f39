pub mod CardAnswer
