-- contexts, edges, visits, devices, and whole certificates
pub mod Told
pub mod ObjectLemmas
pub mod Orders
pub mod ContextsRight
pub mod EdgesRight
pub mod PointSteps
pub mod EdgeSteps
pub mod TablesBuilt
pub mod WholeRead
pub mod WholeSteps
pub mod PlacesTold
pub mod DevicesRight
pub mod ItemsRight
-- states of what is listed
pub mod Below
pub mod Listing
pub mod Pairs
pub mod Said
pub mod Plain
pub mod Right
pub mod Parts
pub mod Again
pub mod Setting
-- of what is listed again, and of objects of which each key is listed
pub mod Apart
pub mod Starting
pub mod Wholes
