pub mod ChoiceLaws
pub mod GroupLaws
pub mod SearchLaws
pub mod MeetingLaws
pub mod ReachedLaws
