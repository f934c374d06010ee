pub mod ItemLaws
pub mod FeedingLaws
pub mod AnsweringLaws
pub mod RunLaws
pub mod HeldLaws
pub mod TakingLaws
