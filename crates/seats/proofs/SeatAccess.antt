-- What a seat's calls add to what its processor called.
use Rattle.std.proofs.Common.{ℕ, Bool, ◌≡◌, inl, inr, Option, Some, None, Result, Ok, Err, List, [], ◌∷◌, ◌++◌, map, filter, refl, sym, ap, subst, ◌∙◌, append_assoc, append-nil}
use Rattle.std.specs.Prelude.{◌/◌}
use Rattle.std.proofs.lemmas.List.{map-append}
use Rattle.journal.specs.declared.event.Event.{Event}
use Rattle.journal.specs.declared.event.Kind.{Kind}
use Rattle.journal.specs.declared.event.Kind.TheVariants.{Load, Store, Fetch}
use Rattle.journal.specs.DidEvent.{event}
use Rattle.journal.specs.Events.{events_of}
use Rattle.book.specs.declared.refused.Refused.{Refused}
use Rattle.cluster.specs.Copies.PageReplica.{PageReplica}
use Rattle.cluster.specs.Copies.Local.{Local, calls, local_noted}
use Rattle.cluster.specs.ProcessorCalls.{IsProcessorCall, IsSameProcessorOfCall, IsProcessorHandingCall}
use Rattle.cluster.specs.Covers.{HasCoverage, IsCoverAllowed}
use Rattle.cluster.specs.ReadyAccess.{HasAccessRoom, IsAccessBrought, IsReadyAccess, IsWordAccessDone}
use Rattle.cluster.specs.declared.cluster.accessing.WordAccess.{WordAccess}
use Rattle.cluster.specs.declared.cluster.accessing.WordAccess.TheVariants as access
use Rattle.seats.specs.Deeds.{deeds, is_deed}
use Rattle.seats.specs.SeatCalls.{SeatCallAccessesBy, AccessesPage, SeatCallsBesides, SeatCallsInside, IsSeatCallFetchIfAny, IsSeatCallUndone, seat_call_word_kind}
use Rattle.seats.specs.Sitting.{seat_deeds}
use Rattle.seats.proofs.Deeds.{deeds-append}

-- what events are made of
seat_access_kinds_of_events : (p : ℕ) (ks : List Kind) → map (λ (e : Event). e.kind) (map (event p) ks) ≡ ks
seat_access_kinds_of_events p [] = refl
seat_access_kinds_of_events p (k ∷ ks) = ap (λ xs. k ∷ xs) (seat_access_kinds_of_events p ks)

-- calls besides, as the program sees them
pub seat_access_besides : (m n : Local) (kinds : List Kind) → IsSameProcessorOfCall m n → calls n ≡ calls m ++ map (event m.number) kinds
    → n.own_cut ≡ m.own_cut → HasCoverage n → (IsCoverAllowed m → IsCoverAllowed n) → SeatCallsBesides m n kinds
seat_access_besides m n kinds same are uncut covers allowed = record {
  stays = record { same = same; uncut = uncut; covers = covers; allowed = allowed };
  calls_are = are;
  deeds_are = ap deeds are ∙ deeds-append (calls m) (map (event m.number) kinds)
      ∙ ap (λ ks. seat_deeds m ++ filter is_deed ks) (seat_access_kinds_of_events m.number kinds);
}

-- what it called first, and then
pub seat_access_besides_then : (l m n : Local) (xs ys : List Kind) → SeatCallsBesides l m xs → SeatCallsBesides m n ys → SeatCallsBesides l n (xs ++ ys)
seat_access_besides_then l m n xs ys first next =
    let was = first.stays in
    let is = next.stays in
    seat_access_besides l n (xs ++ ys)
    (record {
      lock = is.same.lock ∙ was.same.lock;
      number = is.same.number ∙ was.same.number;
      sizes = is.same.sizes ∙ was.same.sizes;
    })
    (next.calls_are ∙ ap (λ es. es ++ map (event m.number) ys) first.calls_are
    ∙ append_assoc (calls l) (map (event l.number) xs) (map (event m.number) ys)
    ∙ ap (λ p. calls l ++ (map (event l.number) xs ++ map (event p) ys)) was.same.number
    ∙ ap (λ es. calls l ++ es) (sym (map-append (event l.number) xs ys)))
    (is.uncut ∙ was.uncut) is.covers (λ allowed. is.allowed (was.allowed allowed))

pub seat_access_inside_then : (l m n : Local) (xs ys : List Kind) → SeatCallsInside l m xs → SeatCallsInside m n ys → SeatCallsInside l n (xs ++ ys)
seat_access_inside_then l m n xs ys first next = record {
  besides = seat_access_besides_then l m n xs ys first.besides next.besides;
  held_is = next.held_is ∙ first.held_is;
  awaits_is = next.awaits_is ∙ first.awaits_is;
}

-- a processor that is as it was
pub seat_access_inside_same : (m n : Local) → n ≡ m → HasCoverage n → SeatCallsInside m n []
seat_access_inside_same m n e covers = record {
  besides = seat_access_besides m n []
      (record {
        lock = ap (λ (x : Local). x.lock) e;
        number = ap (λ (x : Local). x.number) e;
        sizes = ap (λ (x : Local). x.sizes) e;
      })
      (ap calls e ∙ sym (append-nil (calls m))) (ap (λ (x : Local). x.own_cut) e) covers (λ was. subst IsCoverAllowed (sym e) was);
  held_is = ap (λ (x : Local). x.held) e;
  awaits_is = ap (λ (x : Local). x.awaits) e;
}

-- what it did by itself, with one more event
pub seat_access_inside_own : (m n : Local) (k : Kind) (copies : List PageReplica) (stored : List Bool)
    → n ≡ record (local_noted m k) { copies = copies; stored = stored } → HasCoverage n → SeatCallsInside m n (k ∷ [])
seat_access_inside_own m n k copies stored e covers = record {
  besides = seat_access_besides m n (k ∷ [])
      (record {
        lock = ap (λ (x : Local). x.lock) e;
        number = ap (λ (x : Local). x.number) e;
        sizes = ap (λ (x : Local). x.sizes) e;
      })
      (ap calls e ∙ sym (append_assoc (events_of m.seen m.number) m.block _)) (ap (λ (x : Local). x.own_cut) e) covers
      (λ was. subst IsCoverAllowed (sym e) (
        was.0,
        record {
          book = was.1.book;
          views = was.1.views;
          mine = was.1.mine;
          kept = was.1.kept;
        },
      ));
  held_is = ap (λ (x : Local). x.held) e;
  awaits_is = ap (λ (x : Local). x.awaits) e;
}

-- a call that enters the book and is refused
pub seat_access_undone_refused : {first : Option Refused} {many : ℕ} {absent : Local → Type 0} {done : Local → Local → Type 0}
    {added : List Event} (m n : Local) (e : Refused) → IsProcessorCall first many absent done added m n (Some e) → IsSeatCallUndone m n
seat_access_undone_refused {first} {many} {absent} {done} {added} m n e call = by first refl
  where
    leaves : n.held ≡ m.held → n.awaits ≡ m.awaits → n.block ≡ m.block → IsSeatCallUndone m n
    leaves held awaits block = record {
      inside = record {
        besides = seat_access_besides m n [] call.same (call.kept (λ none. cc) ∙ sym (append-nil (calls m))) call.uncut call.covers
            call.allowed;
        held_is = held;
        awaits_is = awaits;
      };
      block_is = block;
    }

    as_was : n ≡ m → IsSeatCallUndone m n
    as_was is = leaves (ap (λ (x : Local). x.held) is) (ap (λ (x : Local). x.awaits) is) (ap (λ (x : Local). x.block) is)

    by : (f : Option Refused) → first ≡ f → IsSeatCallUndone m n
    by (Some x) is = as_was (call.outside x is).1
    by None is = elim (call.err e is refl) [
      | inl inside ↦ leaves (ap (λ (x : Local). x.held) inside.entered.after.same)
          (ap (λ (x : Local). x.awaits) inside.entered.after.same)
          (ap (λ (x : Local). x.block) inside.entered.after.same)
      | inr unmade ↦ as_was unmade.1
    ]

-- what fetches if any leave out
seat_access_deeds_of_fetches : (page : ℕ) (fetches kinds : List Kind) → IsSeatCallFetchIfAny page fetches
    → filter is_deed (fetches ++ kinds) ≡ filter is_deed kinds
seat_access_deeds_of_fetches page fetches kinds (inl none) = ap (λ ks. filter is_deed (ks ++ kinds)) none
seat_access_deeds_of_fetches page fetches kinds (inr some) = ap (λ ks. filter is_deed (ks ++ kinds)) some.3

-- what was called after a fetch, if any
pub seat_access_after_fetch_if_any : (m n : Local) (page : ℕ) (fetches kinds : List Kind) → IsSeatCallFetchIfAny page fetches
    → SeatCallsInside m n (fetches ++ kinds) → AccessesPage m n page kinds
seat_access_after_fetch_if_any m n page fetches kinds fetched inside = record {
  fetches = fetches;
  fetched = fetched;
  inside = inside;
  deeds_are = inside.besides.deeds_are ∙ ap (λ ks. seat_deeds m ++ ks) (seat_access_deeds_of_fetches page fetches kinds fetched);
}

-- a flush, whatever that answers
seat_access_inside_flush : (m n : Local) (refused : Option Refused) → IsProcessorHandingCall m n refused → SeatCallsInside m n []
seat_access_inside_flush m n None call = let done = call.ok refl in record {
  besides = seat_access_besides m n [] call.same done.2 call.uncut call.covers call.allowed;
  held_is = ap (λ (x : Local). x.held) done.0.after;
  awaits_is = ap (λ (x : Local). x.awaits) done.0.after;
}
seat_access_inside_flush m n (Some e) call = (seat_access_undone_refused m n e call).inside

-- what makes room in the block
seat_access_inside_room : (m n : Local) → HasCoverage m → HasAccessRoom m n → SeatCallsInside m n []
seat_access_inside_room m n covers (inl had) = seat_access_inside_same m n had.1 (subst HasCoverage (sym had.1) covers)
seat_access_inside_room m n covers (inr handed) = seat_access_inside_flush m n None handed.1

-- what brings the page
record SeatAccessBrings (m n : Local) (page : ℕ) : Type 0 where
  fetches : List Kind
  fetched : IsSeatCallFetchIfAny page fetches
  inside : SeatCallsInside m n fetches

seat_access_brings : (m n : Local) (a : ℕ) → IsAccessBrought m a n → SeatAccessBrings m n (a / m.sizes.words)
seat_access_brings m n a brings = elim brings.fetched [
  | inl same ↦ record {
    fetches = [];
    fetched = inl refl;
    inside = seat_access_inside_same m n same (subst HasCoverage (sym same) brings.covers);
  }
  | inr fetched ↦ (let c = fetched.done.counts in
      let x = fetched.roomy in
      let one = Fetch c.writers (a / m.sizes.words) c.records c.words in
      record {
        fetches = one ∷ [];
        fetched = inr (c.writers, c.records, c.words, refl);
        inside =
            seat_access_inside_then m x n [] (one ∷ []) (seat_access_inside_room m x brings.covers fetched.room)
            (seat_access_inside_own x n one _ x.stored fetched.done.after fetched.covers);
      })
]

-- the page that was brought is covered
seat_access_brought_covers : (m n : Local) (a : ℕ) → IsAccessBrought m a n → HasCoverage n
seat_access_brought_covers m n a brings = (seat_access_brings m n a brings).inside.besides.stays.covers

-- a load or a store
seat_access_inside_word : (m n : Local) (a : ℕ) (x : WordAccess) (v : ℕ) → IsWordAccessDone m x a v n → HasCoverage n
    → SeatCallsInside m n (seat_call_word_kind x a v ∷ [])
seat_access_inside_word m n a access.Load v done covers = seat_access_inside_own m n (Load a v) m.copies m.stored done.1 covers
seat_access_inside_word m n a (access.Store word) v done covers = seat_access_inside_own m n (Store a word) _ _ done.1.after covers

-- an access, by the answer
pub seat_access_done : (m n : Local) (a : ℕ) (x : WordAccess) (r : Result ℕ Refused) → HasCoverage m → IsReadyAccess m a x n r
    → SeatCallAccessesBy m n (a / m.sizes.words) x a r
seat_access_done m n a x (Ok v) covers made =
    let ready = made.is_ready in
    let brings = seat_access_brings m ready.brought a ready.brings in
    let kinds = seat_call_word_kind x a v ∷ [] in
    seat_access_after_fetch_if_any m n (a / m.sizes.words) brings.fetches kinds brings.fetched
    (seat_access_inside_then m ready.brought n brings.fetches kinds brings.inside
    (seat_access_inside_then ready.brought made.ready n [] kinds
    (seat_access_inside_room ready.brought made.ready (seat_access_brought_covers m ready.brought a ready.brings) ready.room)
    (seat_access_inside_word made.ready n a x v made.done made.covers)))
seat_access_done m n a x (Err e) covers (inl once) =
    seat_access_after_fetch_if_any m n (a / m.sizes.words) [] [] (inl refl)
    (seat_access_inside_same m n once.1 (subst HasCoverage (sym once.1) covers))
seat_access_done m n a x (Err e) covers (inr (brought, is, full)) =
    let brings = seat_access_brings m brought a is in
    seat_access_after_fetch_if_any m n (a / m.sizes.words) brings.fetches [] brings.fetched
    (seat_access_inside_then m brought n brings.fetches [] brings.inside (seat_access_inside_flush brought n (Some e) full.1))
