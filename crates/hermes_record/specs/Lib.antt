-- What is right of one record, rule by rule of document 01, lowest first.
pub mod Members
pub mod Order
pub mod Record
