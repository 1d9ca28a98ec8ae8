pub mod HeadsLaws
