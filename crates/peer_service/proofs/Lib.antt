pub mod Numbers
pub mod PutBack
pub mod WithNumbers
