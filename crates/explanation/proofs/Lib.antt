mod SheetRows
mod WritingCounts
mod Exchanging
mod SwitchingExcess
mod ThreeNumbers
mod Explaining
