mod Blocks
mod Padding
mod Steps
