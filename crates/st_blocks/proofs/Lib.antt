mod Put
mod Table
mod Read
mod Write
