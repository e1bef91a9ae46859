-- Examples of which one rests on another. In specs/ an edit of a definition that makes them false would be taken for text that cannot be read.
mod PlannedExamples
