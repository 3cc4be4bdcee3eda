-- Numbers that rise.
pub mod Rising
