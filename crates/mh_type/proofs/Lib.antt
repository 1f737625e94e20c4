mod Laws
mod Reading
mod Texts
