mod Leasts
mod Tables
mod Takings
mod Calling
