mod Names
mod Passed
mod FirstLabel
mod LowerName
mod CutAtDots
mod TextRoundTrip
