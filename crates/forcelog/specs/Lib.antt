pub mod MeshT
pub mod Log
pub mod Printed
pub mod Empty
pub mod Private
