-- What the clauses of `sha1_schedule` cite.
pub mod Schedule
pub mod Ring
