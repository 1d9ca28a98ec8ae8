pub mod Table
pub mod State
pub mod Heads
pub mod Transition
pub mod Machine
