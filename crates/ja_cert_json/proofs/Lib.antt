-- what values and members stand for
pub mod Views
-- the grammar's loops, a turn at a time
pub mod Turns
