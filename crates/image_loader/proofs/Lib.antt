mod Places
mod Binds
mod Gaps
mod Starts
mod Marks
mod Few
