mod Records
mod Readings
