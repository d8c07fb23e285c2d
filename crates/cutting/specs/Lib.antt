-- Over any rule of what a piece is: cuttings, records, slots in lent columns, the path, and the record law of demand 3.
pub mod Cuttings
pub mod Records
pub mod Slots
pub mod Tracing
pub mod Law
