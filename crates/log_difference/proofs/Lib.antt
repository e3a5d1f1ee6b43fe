pub mod Differ
mod Steps
