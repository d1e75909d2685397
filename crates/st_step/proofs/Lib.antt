mod AddingSo
mod AtPlace
mod Broken
mod Merges
mod Refusals
