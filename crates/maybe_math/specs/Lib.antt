pub mod MaybeMath
