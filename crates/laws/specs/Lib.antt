-- Laws of model's definitions, which the theorems, the proofs of the code or both cite, a module a subject.
pub mod AnswerNumber
pub mod FirstRefusal
pub mod Acceptance
pub mod OnCard
pub mod SittingLaws
pub mod SittingRecords
pub mod Tables
pub mod Encoding
pub mod PracticeAccepted
pub mod CardTables
pub mod CatalogueTables
pub mod LeastSteps
pub mod Operating
pub mod CountMembers
pub mod RoundedCounts
pub mod RoundedAnswers
