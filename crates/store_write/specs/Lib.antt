pub mod LayRays
pub mod FreeRays
