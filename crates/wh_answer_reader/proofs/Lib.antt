mod Spelled
mod OtherRows
mod Lists
mod Cut
mod ReadBack
