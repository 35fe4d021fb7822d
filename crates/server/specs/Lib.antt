-- What the server's own functions promise, beside the model's definitions.
pub mod Sending
pub mod Serving
pub mod Stored
