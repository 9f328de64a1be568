mod TextLines
mod OneAnswer
mod Existing
mod ByLength
mod SomeAnswer
mod Turns
mod FirstFloors
