-- Laws over the width.
pub mod Tests
pub mod Product
pub mod Rotate
pub mod Signed
pub mod Flip
pub mod Picks
pub mod Bits
pub mod Widen
pub mod Fits
pub mod Fields
pub mod FieldLeaves
pub mod Swaps
pub mod Counts
pub mod Double
