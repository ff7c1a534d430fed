pub mod MeaningLemmas
pub mod NoneMeant
pub mod WordLemmas
pub mod FewLemmas
pub mod FirstLemmas
pub mod FourLemmas
pub mod DueLemmas
