pub mod LockQueues
