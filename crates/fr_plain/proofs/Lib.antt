pub mod StepLaws
pub mod HeldLaws
pub mod EndingLaws
pub mod MemberLaws
pub mod OutcomeLaws
pub mod BeginningLaws
pub mod PlainLaws
pub mod ExpansionLaws
