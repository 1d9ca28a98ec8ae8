pub mod AfterLaws
pub mod ToldLaws
pub mod WordLaws
pub mod FitLaws
pub mod AnswerLaws
pub mod MapLaws
pub mod RescueLaws
