pub mod Arcs
pub mod Zones
pub mod Cells
pub mod Means
pub mod Fitting
