mod Continuing
mod Crosses
mod GoingOn
