pub mod Products
pub mod Results
pub mod Sure
