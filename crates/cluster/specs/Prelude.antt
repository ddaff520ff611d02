-- The words that contracts name, passed on from one place. Declares nothing.
pub use Rattle.cluster.specs.SeatedProcessor.{IsChairOfSeatedProcessor, seated_processor}
pub use Rattle.cluster.specs.ProcessorRefusals.{processor_refusal_at_once, processor_refusal_of_access, processor_refusal_of_arrival, processor_refusal_of_ask, processor_refusal_of_closing, processor_refusal_of_event}
pub use Rattle.cluster.specs.ProcessorRefusals.{processor_refusal_of_fetch, processor_refusal_of_flag, processor_refusal_has_valid, processor_refusal_is_waiting, processor_refusal_page_of, processor_refusal_of_release}
pub use Rattle.cluster.specs.ProcessorRefusals.{processor_refusal_of_take}
pub use Rattle.cluster.specs.AccessDone.{LoadAccessDone, FetchAccessDone, StoreAccessDone}
pub use Rattle.cluster.specs.KeptViews.{KeptWithViews, SeesKeptViewBeside, SeesKeptView, view_of_nothing, view_book_sizes}
pub use Rattle.cluster.specs.Entering.{FindsBookOnEntering, HasEntered, HasEnteredAndLeft, IsEnteringCallOf, IsEnteringChairOf}
pub use Rattle.cluster.specs.Covers.{HasCoverage}
pub use Rattle.cluster.specs.ProcessorCalls.{IsProcessorHandingCall, IsSameProcessorOfCall}
pub use Rattle.cluster.specs.CatchingUp.{CatchesUp}
pub use Rattle.cluster.specs.ClosingCalls.{IsClosingCall, MayCloseByCall}
pub use Rattle.cluster.specs.TakingCalls.{HasRoomForTakingCall, IsTakingCall}
pub use Rattle.cluster.specs.WaitingCalls.{IsWaitingCall, waiting_call_answer}
pub use Rattle.cluster.specs.CuttingCalls.{IsCuttingCall, IsCuttingCallFault}
pub use Rattle.cluster.specs.FaithfulJournals.{IsFaithfulJournalAudit}
pub use Rattle.cluster.specs.NewClusters.{HasNewClusterChairs, IsClusterLockOf, HasClusterCoverage, IsNewCluster, AreNewClusterChairs, AreNewClusterParts, IsNewClusterSeated, IsNewClusterChair, SharedCluster}
pub use Rattle.cluster.specs.NewClusters.{shared_cluster}
pub use Rattle.cluster.specs.Finishing.{AreAllToFinish, IsDismantledToFinish, IsFinished}
pub use Rattle.cluster.specs.ClusterHistoryLaws.{ClusterAllowedLaw, ClusterFromBaseLaw, ClusterLeftLaw, ClusterSeenLaw}
