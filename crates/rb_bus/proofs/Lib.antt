mod Answering
mod Boxes
mod Dropped
mod Running
