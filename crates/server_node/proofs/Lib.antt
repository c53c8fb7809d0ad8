mod Ending
mod Names
mod StepsLemmas
