pub mod Printed
pub mod Answer
pub mod Examples
