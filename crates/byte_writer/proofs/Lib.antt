pub mod WrittenLaws
pub mod NumberLaws
