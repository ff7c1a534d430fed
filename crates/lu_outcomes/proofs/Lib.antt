pub mod TellingLemmas
pub mod AnswerLemmas
pub mod EffectLemmas
pub mod PrintsLemmas
pub mod SafetyLemmas
pub mod CauseLemmas
pub mod PieceLemmas
