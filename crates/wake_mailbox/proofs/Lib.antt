mod Places
mod Holds
