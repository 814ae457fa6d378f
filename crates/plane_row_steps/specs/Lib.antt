pub mod MaskRows
