-- The laws that are read off an answer taken apart.
pub mod WholeLists
pub mod ClerkLists
pub mod AnswersAreDone
pub mod ApprovalsGiveAndAreAdvised
pub mod RefusalsChangeNothing
