pub mod GroupParts
pub mod PackRows
pub mod LeadRow
