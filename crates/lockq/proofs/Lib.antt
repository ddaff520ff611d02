pub mod OrderlyQueues
