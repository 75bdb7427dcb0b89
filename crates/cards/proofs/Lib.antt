pub mod AnswerLaws
pub mod CountedLaws
pub mod LaidLaws
pub mod RowLaws
pub mod TrackLaws
