pub mod Laws
pub mod DayLaws
pub mod FormedLaws
