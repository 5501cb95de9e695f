-- Laws of timestamps and of a record's moves; of a test that implies another, for all that stand above.
pub mod Tests
pub mod Order
pub mod Moves
