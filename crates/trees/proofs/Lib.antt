-- `Again`: what was answered about a tree is answered again.
pub mod Again
