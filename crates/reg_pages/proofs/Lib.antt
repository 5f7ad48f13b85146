pub mod NotEmpty
pub mod Portioned
pub mod Pieces
pub mod EscapedUtf8
pub mod Escaping
pub mod NestedTags
pub mod FiveFields
pub mod NotesRows
