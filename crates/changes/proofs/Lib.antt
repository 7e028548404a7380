mod Filling
mod Reading
mod Storing
mod StoringTwo
mod Taking
mod Assigning
mod Padding
mod Declaring
