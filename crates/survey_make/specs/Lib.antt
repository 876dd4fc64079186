pub mod Conf
pub mod Script
