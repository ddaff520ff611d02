pub mod EventsWithin
