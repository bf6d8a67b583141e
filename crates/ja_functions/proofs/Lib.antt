mod Choices
mod IndexKeys
mod Labels
mod Lists
mod Operations
