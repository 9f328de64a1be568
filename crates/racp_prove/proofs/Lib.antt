mod Certified
mod Shown
