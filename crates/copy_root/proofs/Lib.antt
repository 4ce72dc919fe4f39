pub mod FromRoot
