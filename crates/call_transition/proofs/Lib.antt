pub mod TransitLaws
pub mod SavingLaws
