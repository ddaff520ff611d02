-- What a cut of the journal is of the book, whose room is what is owing.
use Rattle.std.proofs.Common.{◌≡◌, ℕ, ap, refl, sym, subst}
use Rattle.journal.specs.Log.{Log}
use Rattle.journal.specs.JournalCuts.{JournalWasCut}
use Rattle.book.specs.BookState.{BookState}
use Rattle.book.specs.BookCut.{WasBookCut}

-- the room is no matter to a cut, and stays
book_cut_call_roomy : (old new : Log) (room : ℕ) → JournalWasCut old new
    → JournalWasCut (record old { room = room }) (record new { room = room })
book_cut_call_roomy old new room was = record {
  taken = was.taken;
  may = record { place = was.may.place; few = was.may.few };
  race_free = was.race_free;
  base = was.base;
  left = ap (λ (l : Log). record l { room = room }) was.left;
}

-- a book of which the journal was cut, with the same room owing
pub book_cut_call_is : (b now : BookState) (log new : Log) (room : ℕ) → b ≡ now → b.journal ≡ record log { room = room }
    → JournalWasCut log new → WasBookCut now (record b { journal = record new { room = room } })
book_cut_call_is b now log new room same journal was =
    let cut = subst (λ (l : Log). JournalWasCut l (record new { room = room })) (sym journal)
    (book_cut_call_roomy log new room was) in
    let whole : WasBookCut b (record b { journal = record new { room = room } }) =
    record { journal = cut; others = refl } in
    subst (λ (x : BookState). WasBookCut x (record b { journal = record new { room = room } })) same whole
