pub mod Before
pub mod Tags
pub mod Views
