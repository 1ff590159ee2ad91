pub mod Alone
pub mod Handshake
pub mod LinePings
pub mod Pings
