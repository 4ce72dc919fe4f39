pub mod SurveyLaws
pub mod Unpacked
