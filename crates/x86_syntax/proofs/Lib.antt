pub mod FormatLemmas
pub mod SpellingLemmas
pub mod DecodesLemmas
pub mod TableLemmas
pub mod Rows
pub mod TextLemmas
