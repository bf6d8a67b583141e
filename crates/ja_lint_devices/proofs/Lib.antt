mod Words
mod Found
mod Refusing
mod Examples
mod Once
