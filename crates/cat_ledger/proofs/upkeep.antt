mod Sizes
mod Made
mod Spared
