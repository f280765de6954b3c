mod Lists
mod Turns
