pub mod BlockingPairLemmas
pub mod VerdictLemmas
