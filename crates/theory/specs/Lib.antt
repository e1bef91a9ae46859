-- The theorems, a module a subject. Theorems on shows are over racks, tables and lists of any size with steps below the byte for off, theorems on
-- cards over accepted cards. The end theorems are in RowCosts, SheetLaws, RunningCosts, ThresholdPlans, Enumeration, Average, CountLists,
-- Condition3, Explanations, RearrangedSheets, SmallestPlans, Refusals, Outcomes, ExplainedSheets, CourseBook, ListedCounts, LongInput, Generator,
-- PracticeCards, SittingRuns, SittingBounds and SittingCalls, and the other modules lead to them. Counterexamples shows that some of their
-- hypotheses are needed, and Applications that they can be met. RelatedCards and BookExamples show that the hypotheses of CourseBook can be met,
-- and that sharper forms of its facts fail.
pub mod Columns
pub mod Hypotheses
pub mod RowCosts
pub mod Switching
pub mod CountCosts
pub mod SheetLaws
pub mod PlacedPlans
pub mod Ties
pub mod Choices
pub mod SlotColumns
pub mod Least
pub mod NearLeads
pub mod ConvexValues
pub mod RunningCosts
pub mod Levels
pub mod ConvexColumns
pub mod Halves
pub mod Rounds
pub mod ThresholdPlans
pub mod Enumeration
pub mod Average
pub mod Potential
pub mod Ratio
pub mod CountLists
pub mod Condition3
pub mod BalancedSheets
pub mod Explanations
pub mod RearrangedSheets
pub mod SmallestPlans
pub mod AgreeingShows
pub mod ReversedShows
pub mod Refusals
pub mod Outcomes
pub mod ExplainedSheets
pub mod CourseBook
pub mod RelatedCards
pub mod BookExamples
pub mod ListedCounts
pub mod LongInput
pub mod Generator
pub mod PracticeCards
pub mod Counterexamples
pub mod SittingEvents
pub mod SittingHistory
pub mod SittingRuns
pub mod SittingBounds
pub mod SittingCalls
pub mod Applications
