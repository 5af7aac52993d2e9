mod Loops
mod Examples
