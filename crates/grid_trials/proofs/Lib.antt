mod FewRows
mod KnownScales
