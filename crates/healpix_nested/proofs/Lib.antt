mod Masks
mod Uniq
