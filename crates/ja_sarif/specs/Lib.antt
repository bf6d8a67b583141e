-- SARIF of messages about files
pub mod Sarif
