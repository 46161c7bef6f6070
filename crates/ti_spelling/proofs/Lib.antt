pub mod NumberLemmas
pub mod TrimLemmas
pub mod OctalDigits
pub mod PieceLemmas
pub mod SpellingLaws
pub mod ValueLaws
pub mod WritingLaws
