pub mod ReportLemmas
mod AllLines
