pub mod PlaceLaws
pub mod RegionLaws
