pub mod IndexTexts
pub mod Links
pub mod InSight
pub mod Cuts
pub mod Changes
pub mod Puts
pub mod InSlots
pub mod Settings
