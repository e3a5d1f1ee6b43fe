pub mod Leads
pub mod LeadWalk
