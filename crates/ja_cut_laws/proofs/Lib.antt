-- how brackets open and close
pub mod Shapes
-- what a text and what is left of it have in common
pub mod Cutting
-- white space behind a text
pub mod Spaces
-- a text that is cut off is no JSON
pub mod Refused
-- a certificate that is cut off is no JSON
pub mod Certificates
