pub mod CallLaws
pub mod ValueLaws
