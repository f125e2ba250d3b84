pub mod NamesAndNumbers
