mod Asked
mod Runs
mod Sending
mod Turns
