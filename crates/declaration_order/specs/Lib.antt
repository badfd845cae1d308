pub mod steps
pub mod Numbers
pub mod Tables
pub mod Leads
pub mod Wants
pub mod LeadBack
pub mod Computable
