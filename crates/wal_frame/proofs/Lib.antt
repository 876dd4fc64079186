mod Fields
mod Edits
mod Payloads
mod Records
mod Wals
mod Headers
mod Loops
mod Alone
