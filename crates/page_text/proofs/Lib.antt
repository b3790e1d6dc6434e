mod Places
mod WordsOfTracks
mod Ranges
