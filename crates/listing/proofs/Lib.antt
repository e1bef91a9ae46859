pub mod Digits
pub mod StepTexts
pub mod SheetRows
pub mod Lengths
