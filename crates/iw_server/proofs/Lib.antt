mod Left
mod Stepping
mod Swept
