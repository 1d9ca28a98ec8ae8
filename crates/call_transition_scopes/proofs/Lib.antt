pub mod ListLaws
pub mod ClockLaws
pub mod EventLaws
pub mod MoveLaws
pub mod RowLaws
pub mod TurnLaws
