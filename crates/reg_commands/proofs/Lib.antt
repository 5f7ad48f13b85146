pub mod Approvals
pub mod Submissions
