pub mod DecimalLaws
pub mod ListLaws
pub mod FitLaws
pub mod CodeLaws
