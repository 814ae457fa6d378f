pub mod ByteBits
