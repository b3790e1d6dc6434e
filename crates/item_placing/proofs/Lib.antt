pub mod AutoMargins
pub mod Laws
