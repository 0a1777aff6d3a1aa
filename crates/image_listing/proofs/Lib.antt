mod Merges
mod Ordering
