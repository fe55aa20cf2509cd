pub mod ImageLines
pub mod Report
pub mod ReportParts
