-- What a fault of several calls of a seat tells.
use Rattle.std.proofs.Common.{ℕ, ◌≡◌, ◌+◌, ◌<◌, false, List, [], ◌∷◌, ◌++◌, get_or, length, take, refl, sym, ap, subst, ◌∙◌, append_assoc, arith}
use Rattle.std.proofs.lemmas.List.{length-take-le}
use Rattle.journal.specs.declared.event.Kind.{Kind}
use Rattle.journal.specs.declared.event.Kind.TheVariants.{Load, Ask, Acquire, Release}
use Rattle.cluster.specs.Copies.Local.{Local}
use Rattle.seats.specs.declared.fault.SeatFault.{SeatFault}
use Rattle.seats.specs.Acting.{HasActed, HasSummed, acting_loads_from, loads_at}
use Rattle.seats.specs.SeatCalls.{HasDone}
use Rattle.seats.specs.SeatCallFaults.{HasSeatCallFaultIn, IsSeatCallAccessFault, IsSeatCallFault, IsSeatCallStepFault}
use Rattle.seats.specs.Sitting.{SittingSeat}
use Rattle.seats.specs.Tenures.{tenure_of_lock}
use Rattle.seats.proofs.SeatActing.{seat_acted_closing, seat_acted_nothing, seat_acted_then, seat_acting_loads_push}
use Rattle.seats.proofs.SummedLoads.{summed_beginning}

module _ {id : SittingSeat} {f : SeatFault} where
  -- after what was done before
  pub acting_fault_next : {l m n : Local} (done : List Kind) (k : Kind) (ks : List Kind) → HasActed l m done → IsSeatCallStepFault id m n k f
      → HasSeatCallFaultIn id l n (done ++ k ∷ ks) f
  acting_fault_next {l} {m} done k ks acted fault =
      record { done = done; between = []; next = k; later = ks; all = refl; before = m; acted = acted; fault = fault }

  -- of the first call
  pub acting_fault_first : {m n : Local} (k : Kind) (ks : List Kind) → IsSeatCallStepFault id m n k f → HasSeatCallFaultIn id m n (k ∷ ks) f
  acting_fault_first {m} k ks fault = acting_fault_next [] k ks (seat_acted_nothing m) fault

  -- of the second one, before the first
  pub acting_fault_second : {m n : Local} (first k : Kind) (ks : List Kind) → IsSeatCallStepFault id m n k f
      → HasSeatCallFaultIn id m n (first ∷ k ∷ ks) f
  acting_fault_second {m} first k ks fault =
      record { done = []; between = first ∷ []; next = k; later = ks; all = refl; before = m; acted = seat_acted_nothing m; fault = fault }

  -- in the second part
  pub acting_fault_then : {l m n : Local} {ls : List Kind} (ks : List Kind) → HasActed l m ks → HasSeatCallFaultIn id m n ls f
      → HasSeatCallFaultIn id l n (ks ++ ls) f
  acting_fault_then ks acted part = record {
    done = ks ++ part.done;
    between = part.between;
    next = part.next;
    later = part.later;
    all = ap (λ es. ks ++ es) part.all ∙ sym (append_assoc ks part.done (part.between ++ part.next ∷ part.later));
    before = part.before;
    acted = seat_acted_then ks part.done acted part.acted;
    fault = part.fault;
  }

  -- in the first part
  pub acting_fault_front : {m n : Local} {ks : List Kind} (ls : List Kind) → HasSeatCallFaultIn id m n ks f → HasSeatCallFaultIn id m n (ks ++ ls) f
  acting_fault_front ls part = record {
    done = part.done;
    between = part.between;
    next = part.next;
    later = part.later ++ ls;
    all = ap (λ es. es ++ ls) part.all ∙ append_assoc part.done (part.between ++ part.next ∷ part.later) ls
        ∙ ap (λ es. part.done ++ es) (append_assoc part.between (part.next ∷ part.later) ls);
    before = part.before;
    acted = part.acted;
    fault = part.fault;
  }

  -- under the lock
  pub acting_fault_held : {l m n : Local} (lock : ℕ) (ks : List Kind) → HasDone l m (Ask lock ∷ Acquire lock ∷ []) → HasSeatCallFaultIn id m n ks f
      → HasSeatCallFaultIn id l n (tenure_of_lock lock ks) f
  acting_fault_held lock ks locked part =
      acting_fault_then (Ask lock ∷ Acquire lock ∷ []) (seat_acted_closing (Ask lock ∷ Acquire lock ∷ []) locked refl)
      (acting_fault_front (Release lock ∷ []) part)

  -- of the release
  pub acting_fault_unreleased : {l m n o : Local} (lock : ℕ) (ks : List Kind) → HasDone l m (Ask lock ∷ Acquire lock ∷ []) → HasActed m n ks
      → IsSeatCallFault n o (Release lock) f → HasSeatCallFaultIn id l o (tenure_of_lock lock ks) f
  acting_fault_unreleased lock ks locked acted fault =
      acting_fault_next (Ask lock ∷ Acquire lock ∷ ks) (Release lock) []
      (seat_acted_then (Ask lock ∷ Acquire lock ∷ []) ks (seat_acted_closing (Ask lock ∷ Acquire lock ∷ []) locked refl) acted) fault

  -- of a load of words that lie one behind another
  pub acting_fault_loads : {l m n : Local} (a b : ℕ) (words : List ℕ) → length words + a ≡ b → HasActed l m (acting_loads_from a words)
      → IsSeatCallAccessFault id m n b false f → (ws : List ℕ) × HasSeatCallFaultIn id l n (acting_loads_from a ws) f
  acting_fault_loads {l} {m} {n} a b words is acted fault = (
    words ++ 0 ∷ [],
    subst (λ ks. HasSeatCallFaultIn id l n ks f) (sym (seat_acting_loads_push a words 0))
        (acting_fault_next (acting_loads_from a words) (Load (length words + a) 0) [] acted
        (subst (λ c. IsSeatCallAccessFault id m n c false f) (sym is) fault)),
  )

  -- of a load of one of the words at these addresses
  pub acting_fault_sum : {l m n : Local} {s : ℕ} (addresses : List ℕ) (i : ℕ) → i < length addresses → HasSummed l m (take i addresses) s
      → IsSeatCallAccessFault id m n (get_or addresses i 0) false f
      → (words : List ℕ) × (length words ≡ length addresses) × HasSeatCallFaultIn id l n (loads_at addresses words) f
  acting_fault_sum {l} {m} {n} addresses i less was fault =
      let i_is : length was.words ≡ i = was.long ∙ length-take-le i addresses (omega (arith, less)) in
      let part = summed_beginning addresses was.words (omega (arith, less, i_is)) in
      let front = loads_at (take i addresses) was.words in (
        part.all,
        part.long,
        subst (λ ks. HasSeatCallFaultIn id l n ks f)
            (sym (part.loads ∙ ap (λ k. loads_at (take k addresses) was.words ++ part.next ∷ part.later) i_is))
            (acting_fault_next front part.next part.later was.acted
            (subst (λ k. IsSeatCallStepFault id m n k f)
            (sym (part.next_is ∙ ap (λ k. Load (get_or addresses k 0) part.value) i_is)) fault)),
      )
