mod WorkedSheets
pub mod RiskLaws
pub mod WindowLemmas
pub mod RowLemmas
pub mod PlateLemmas
pub mod CountLemmas
pub mod SmallSheets
