mod Plainly
mod Faults
mod Whole
mod Reported
mod Given
mod Returning
