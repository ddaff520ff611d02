pub mod RowsOfCuts
