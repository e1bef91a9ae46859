-- Places has lists of allowed counts and their laws, Thresholds what the search over one computes, ThresholdLaws the laws of that, and
-- ThresholdExamples plans that it finds.
pub mod Places
pub mod Thresholds
pub mod ThresholdLaws
pub mod ThresholdExamples
