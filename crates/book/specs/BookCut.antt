-- What a cut does to the book.
use Rattle.std.specs.Prelude.{◌≡◌}
use Rattle.journal.specs.JournalCuts.{JournalWasCut}
use Rattle.journal.specs.declared.cut.CutFault.{CutFault}
use Rattle.journal.specs.declared.cut.CutFault.TheVariants.{Racy, NoEpisode, BaseFull, NoMemory}
use Rattle.book.specs.declared.refused.Refused.{Refused}
use Rattle.book.specs.declared.refused.Refused.TheVariants as refused
use Rattle.book.specs.BookState.{BookState}

-- its journal was cut, and all else stays
pub record WasBookCut (old new : BookState) : Type 0 where
  pub journal : JournalWasCut old.journal new.journal
  pub others : new ≡ record old { journal = new.journal }

-- the refusal of a cut
abbrev pub book_cut_refusal : CutFault → Refused
book_cut_refusal (Racy i k) = refused.Racy i k
book_cut_refusal NoEpisode = refused.NoEpisode
book_cut_refusal BaseFull = refused.BaseFull
book_cut_refusal NoMemory = refused.NoMemory
