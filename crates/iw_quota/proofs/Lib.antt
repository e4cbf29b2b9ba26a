mod Cells
mod Given
mod Refused
