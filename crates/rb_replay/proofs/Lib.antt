mod QuietActs
mod QuietHeeds
mod Written
mod Advanced
mod Events
mod Skips
mod ActsDue
mod HeedsDue
