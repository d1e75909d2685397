mod Removed
