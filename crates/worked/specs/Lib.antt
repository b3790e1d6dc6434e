pub mod TrackPages
