mod Crossing
mod FromStart
