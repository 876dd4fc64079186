mod Asked
mod Content
mod Faulty
mod Going
mod Inputs
mod Next
mod Runs
mod Told
