pub mod Lanes
pub mod Numbers
pub mod Sums
pub mod Places
mod WorkedCells
pub mod Boards
pub mod Keeps
pub mod Runs
pub mod Steps
pub mod TableWords
pub mod CountLemmas
pub mod NeedLemmas
mod Worked
pub mod Shapes
pub mod Cells
pub mod Fits
pub mod HaloColumns
pub mod HaloTraps
pub mod Ideal
pub mod Local
pub mod Halo
pub mod LocalCells
pub mod Bridges
pub mod LookLemmas
