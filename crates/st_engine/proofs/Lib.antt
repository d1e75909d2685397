mod Told
mod Held
