pub mod KeptPages
