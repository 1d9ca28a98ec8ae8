pub mod PopLaws
