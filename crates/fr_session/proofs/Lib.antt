pub mod FeedLaws
pub mod NameLaws
pub mod HeldLaws
