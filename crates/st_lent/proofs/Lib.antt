mod Places
mod Out
mod Back
mod Waking
mod Vanishing
