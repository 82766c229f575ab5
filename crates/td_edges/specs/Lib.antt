pub mod Spans
pub mod Parting
pub mod EdgeSignals
pub mod Coverage
pub mod WindowLaws
pub mod ParityLaws
pub mod TargetLaws
pub mod EdgeLaws
