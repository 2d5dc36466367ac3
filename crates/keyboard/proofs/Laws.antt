pub mod Table
pub mod Answers
pub mod Streams
pub mod Hosts
