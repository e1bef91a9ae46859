-- Drawing has what the functions that draw and write a practice card ask for and give.
pub mod Drawing
