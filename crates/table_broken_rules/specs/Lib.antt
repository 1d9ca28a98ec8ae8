pub mod BrokenRules
