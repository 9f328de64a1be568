mod Precedence
mod Excess
mod OneAnswer
mod Certified
