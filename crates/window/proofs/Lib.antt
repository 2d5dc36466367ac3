-- Laws about the definitions, and the theorems that docs/PROVED.md names.
pub mod Laws
pub mod Theorems
