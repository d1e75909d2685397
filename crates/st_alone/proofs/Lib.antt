mod Taking
mod Returning
