pub mod InOneNumber
