pub mod Expanding
pub mod FlatDefined
pub mod FlatNew
pub mod FlatPlaces
pub mod FlatSums
pub mod FlatUpdates
pub mod FlatWeights
