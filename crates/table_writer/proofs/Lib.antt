pub mod HeadLaws
pub mod WriterLaws
pub mod NumbersLaws
pub mod RoundTrip
pub mod NumbersBack
pub mod SmallLaws
