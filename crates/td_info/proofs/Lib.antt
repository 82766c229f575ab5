pub mod Deep
pub mod Wide
