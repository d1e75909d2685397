mod Told
mod Others
mod Stopping
mod Ending
