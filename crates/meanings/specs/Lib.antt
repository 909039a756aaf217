pub mod Queue
pub mod Open
pub mod Window
pub mod WindowCode
