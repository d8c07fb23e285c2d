-- Laws of the entry over a slice of rows.
-- the promise met twice, and "exactly when"
pub mod Determinacy
-- rows judged in turn
pub mod Judging
-- rows put in columns, and the promise of `build_rows` in each case
pub mod Copies
