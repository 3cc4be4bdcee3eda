-- The demands, the laws behind them, and the fifteen presses.
pub mod Telling
pub mod Opening
pub mod Printed
pub mod Demands
pub mod Presses
pub mod FromC
pub mod InNumbers
pub mod Tied
