pub mod BarrierEpisodes
