pub mod Unpacked
pub mod HintLaws
