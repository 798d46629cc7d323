-- Scripts: the lines that are moves, and the lines that they give.
pub mod Lines
