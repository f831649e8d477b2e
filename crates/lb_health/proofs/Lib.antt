mod EndsIn
mod LastOfARow
