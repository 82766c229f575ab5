mod Worst
mod Among
