pub mod RawScales
pub mod ShortNames
