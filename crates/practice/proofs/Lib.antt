pub mod TableLoop
pub mod LoadsLoop
pub mod PracticeAnswers
