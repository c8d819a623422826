mod Members
mod Fits
mod Covering
mod Beginning
mod Seeing
mod Certified
