pub mod MaskLemmas
pub mod FieldLaws
pub mod RowLaws
pub mod ClassesLaws
pub mod AddNodeLaws
pub mod RequestLaws
pub mod ResponseLaws
pub mod NoticeLaws
