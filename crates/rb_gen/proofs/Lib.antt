mod Lists
mod GeneratedIsLawful
mod Places
mod Read
mod Accepted
