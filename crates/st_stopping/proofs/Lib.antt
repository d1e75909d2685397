mod Infos
mod Stopping
