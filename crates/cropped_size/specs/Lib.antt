pub mod Cropped
