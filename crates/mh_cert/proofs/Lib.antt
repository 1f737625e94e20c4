mod Orders
mod Within
