mod Alike
mod Rounding
