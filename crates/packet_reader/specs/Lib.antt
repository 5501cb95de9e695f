pub mod Opening
pub mod Walking
