mod Halted
mod Sifted
