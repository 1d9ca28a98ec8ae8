pub mod PartLaws
pub mod CallLaws
pub mod RunLaws
pub mod StartLaws
pub mod WholeLaws
