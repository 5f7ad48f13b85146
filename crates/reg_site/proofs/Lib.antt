pub mod NotesAgree
pub mod Escaped
pub mod Numbered
pub mod Mapped
pub mod Merging
pub mod Portioned
pub mod ShortPictures
pub mod SiteLaws
