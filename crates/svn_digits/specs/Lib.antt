pub mod Numbers
pub mod StandIns
