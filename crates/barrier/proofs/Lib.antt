pub mod LastArrivals
