mod Hits
mod WorkerSums
mod Settling
mod Sending
mod Scripts
