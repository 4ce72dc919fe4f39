pub mod EveryKnown
