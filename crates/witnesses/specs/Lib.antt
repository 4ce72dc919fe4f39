pub mod CanBe
