mod Asked
mod Changes
mod Followed
mod Following
mod Marks
mod Placed
mod Standing
