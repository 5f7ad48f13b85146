pub mod ComparedTexts
pub mod Covered
pub mod Fronts
pub mod ListedMembers
pub mod ListingText
pub mod PrintedTokens
pub mod ReadObjects
pub mod WrittenRecords
