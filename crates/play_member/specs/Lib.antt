-- A member of the group in play (01, "The playing program").
pub mod Member
