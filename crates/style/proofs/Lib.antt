mod FirstFailing
mod Ranges
