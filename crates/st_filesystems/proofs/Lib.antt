mod Answered
mod Created
mod Sizes
