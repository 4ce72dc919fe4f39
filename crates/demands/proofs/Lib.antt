-- The archive keeps the ledger's laws, and so the ledger's theorem holds of it.
pub mod Tests
pub mod LookUp
pub mod First
pub mod Seen
pub mod Read
pub mod Write
pub mod Step
pub mod TellAdds
pub mod NewNames
pub mod LogLaws
pub mod LentLaws
pub mod Lawful
pub mod Theorem
