mod Begun
mod Going
mod Reports
mod Deciding
mod Onward
