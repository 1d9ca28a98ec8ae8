pub mod GatherLaws
pub mod SiftLaws
