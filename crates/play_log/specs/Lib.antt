-- The log of the playing program, as the run has it.
pub mod Log
