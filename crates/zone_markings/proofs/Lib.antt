mod Numbers
mod Completions
mod Paired
