mod Judged
mod Made
mod Stops
mod Versions
mod Worked
