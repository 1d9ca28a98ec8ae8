pub mod PushLaws
pub mod HeadLaws
