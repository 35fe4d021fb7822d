-- The bytes that the text of `spell` begins with.
pub mod Front
-- What the holes of a format in hexadecimal write.
pub mod Hexadecimal
-- The text of a house refusal.
pub mod HouseTexts
-- The digits of its number, as `house_text` lays them.
pub mod Refusal
-- What each type prints is settled.
pub mod Settled
