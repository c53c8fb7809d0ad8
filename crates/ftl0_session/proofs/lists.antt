mod CallerLists
mod LawLemmas
mod OnePasses
mod Selecting
mod Taking
