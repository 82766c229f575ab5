pub mod FirstFiles
