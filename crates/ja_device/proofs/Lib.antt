pub mod Signing
