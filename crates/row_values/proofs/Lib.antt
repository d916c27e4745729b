pub mod AnswerLemmas
pub mod ArmsLemmas
pub mod QuietLemmas
pub mod RowLemmas
