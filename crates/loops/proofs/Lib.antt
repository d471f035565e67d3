mod Scans
mod Rounds
mod Timings
