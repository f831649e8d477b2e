mod Forms
mod Messages
mod Outcomes
