mod Numbers
mod Parts
mod Stretches
