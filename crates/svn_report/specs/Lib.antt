pub mod FaultNumbers
pub mod Reports
pub mod Lines
pub mod ReportOrder
pub mod LawfulReports
pub mod ReportNames
pub mod SameReports
