pub mod AnswerLines
pub mod AskLines
pub mod ClerkLists
pub mod CommandLines
pub mod Counts
pub mod TermsInRuns
