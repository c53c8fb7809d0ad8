mod CarriedLemmas
pub mod CourseLemmas
