mod EachText
mod Lines
mod Showing
