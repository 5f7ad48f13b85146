mod Flaws
mod Folders
mod Named
mod Nameless
mod StrayFiles
