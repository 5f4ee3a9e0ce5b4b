pub mod Vocabularies
