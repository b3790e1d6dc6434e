pub mod Places
pub mod Ranges
pub mod Containers
pub mod WrittenTracks
pub mod Pages
pub mod Axes
pub mod PageLaws
