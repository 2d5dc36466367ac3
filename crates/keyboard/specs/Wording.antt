-- How theorems of this layer speak. No rule stands here.
pub mod Begun
