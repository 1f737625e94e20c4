mod Fieldless
mod NoCaller
mod Results
mod Sending
