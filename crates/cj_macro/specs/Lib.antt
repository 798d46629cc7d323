pub mod Drawable
