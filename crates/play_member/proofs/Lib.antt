-- Laws of a member.
pub mod Members
