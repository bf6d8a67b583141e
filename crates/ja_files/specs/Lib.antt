-- files and their one text: read from `Files` on
pub mod Files
pub mod Lines
pub mod Order
