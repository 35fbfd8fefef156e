pub mod DoneLemmas
pub mod PlanLemmas
pub mod PlanEnds
pub mod CallEnds
pub mod SampleLemmas
