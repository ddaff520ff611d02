-- Calls of a seat, put together.
use Rattle.std.proofs.Common.{ℕ, ◌≡◌, ◌+◌, ◌%◌, ◌^◌, inl, inr, Bool, Result, Ok, Err, OnErr, List, [], ◌∷◌, ◌++◌, length, refl, sym, ap, subst, ◌∙◌, append-nil, append_assoc, arith}
use Rattle.std.specs.Prelude.{filter}
use Rattle.journal.specs.declared.event.Kind.{Kind}
use Rattle.journal.specs.declared.event.Kind.TheVariants.{Load, Store, Ask, Acquire, Release}
use Rattle.cluster.specs.Copies.Local.{Local}
use Rattle.cluster.specs.Copies.AfterNews.{locks_held_after_news}
use Rattle.seats.specs.Acting.{HasActed, HasActedInPart, acting_loads_from}
use Rattle.seats.specs.Deeds.{is_deed}
use Rattle.seats.specs.SeatCalls.{AccessesPage, HasDone, IsLeftUndone, seat_calls_held_through}
use Rattle.seats.specs.Sitting.{seat_deeds}
use Rattle.seats.specs.Tenures.{tenure_of_lock}
use Rattle.seats.specs.WordTallies.{AddsUpTo, word_tally_adding}
use Rattle.seats.proofs.AddedTallies.{added_tally_both}

-- whatever is answered
pub seat_acting_faulted : {B E : Type 0} {P : Type 0} (q : Result B E) → P → OnErr q P
seat_acting_faulted (Ok y) x = tt
seat_acting_faulted (Err e) x = x

seat_calls_held_through-append : (ks ls : List Kind) (held : List Bool) → seat_calls_held_through (ks ++ ls) held ≡ seat_calls_held_through ls (seat_calls_held_through ks held)
seat_calls_held_through-append [] ls held = refl
seat_calls_held_through-append (k ∷ ks) ls held = seat_calls_held_through-append ks ls (locks_held_after_news k held)

-- nothing
pub seat_acted_nothing : (m : Local) → HasActed m m []
seat_acted_nothing m = record {
  same = record { lock = refl; number = refl; sizes = refl };
  deeds_are = sym (append-nil (seat_deeds m));
  held_is = refl;
}

-- some calls, and then some
pub seat_acted_then : {l m n : Local} (ks ls : List Kind) → HasActed l m ks → HasActed m n ls → HasActed l n (ks ++ ls)
seat_acted_then {l} ks ls first next = record {
  same = record {
    lock = next.same.lock ∙ first.same.lock;
    number = next.same.number ∙ first.same.number;
    sizes = next.same.sizes ∙ first.same.sizes;
  };
  deeds_are = next.deeds_are ∙ ap (λ es. es ++ ls) first.deeds_are ∙ append_assoc (seat_deeds l) ks ls;
  held_is = next.held_is ∙ ap (seat_calls_held_through ls) first.held_is ∙ sym (seat_calls_held_through-append ks ls l.held);
}

-- an access
pub seat_acted_access : {m n : Local} {page : ℕ} (kinds : List Kind) → AccessesPage m n page kinds → filter is_deed kinds ≡ kinds
    → seat_calls_held_through kinds m.held ≡ m.held → HasActed m n kinds
seat_acted_access {m} kinds done deeds held = record {
  same = done.inside.besides.stays.same;
  deeds_are = done.deeds_are ∙ ap (λ ks. seat_deeds m ++ ks) deeds;
  held_is = done.inside.held_is ∙ sym held;
}

-- a call that closes the interval
pub seat_acted_closing : {m n : Local} (kinds : List Kind) → HasDone m n kinds → filter is_deed kinds ≡ kinds → HasActed m n kinds
seat_acted_closing {m} kinds done deeds = record {
  same = done.besides.stays.same;
  deeds_are = done.besides.deeds_are ∙ ap (λ ks. seat_deeds m ++ ks) deeds;
  held_is = done.held_is;
}

-- a load, and the store of the word with a number added
pub seat_acted_adding : {l m n : Local} {page other : ℕ} (a v x k : ℕ) → x ≡ (v + k) % 2 ^ 32 → AccessesPage l m page (Load a v ∷ [])
    → AccessesPage m n other (Store a x ∷ []) → HasActed l n (word_tally_adding a v k)
seat_acted_adding {l} {m} {n} a v x k is load store =
    subst (λ y. HasActed l n (Load a v ∷ Store a y ∷ [])) is
    (seat_acted_then (Load a v ∷ []) (Store a x ∷ []) (seat_acted_access (Load a v ∷ []) load refl refl)
    (seat_acted_access (Store a x ∷ []) store refl refl))

-- a whole tenure
pub seat_acted_tenure : {l m n o : Local} (lock : ℕ) (ks : List Kind) → HasDone l m (Ask lock ∷ Acquire lock ∷ []) → HasActed m n ks
    → HasDone n o (Release lock ∷ []) → HasActed l o (tenure_of_lock lock ks)
seat_acted_tenure lock ks locked acted released =
    seat_acted_then (Ask lock ∷ Acquire lock ∷ ks) (Release lock ∷ [])
    (seat_acted_then (Ask lock ∷ Acquire lock ∷ []) ks (seat_acted_closing (Ask lock ∷ Acquire lock ∷ []) locked refl) acted)
    (seat_acted_closing (Release lock ∷ []) released refl)

-- what faults before its first call is done
pub seat_acted_in_part_none : {m n : Local} (k : Kind) (ks : List Kind) → HasActed m n [] → HasActedInPart m n (k ∷ ks)
seat_acted_in_part_none k ks acted = record { done = []; next = k; later = ks; all = refl; acted = acted }

-- the lock was asked for, or not
pub seat_acted_in_part_asked : {m n : Local} (lock : ℕ) (ks : List Kind) → IsLeftUndone m n (Ask lock) → HasActedInPart m n (tenure_of_lock lock ks)
seat_acted_in_part_asked {m} {n} lock ks (inl undone) =
    seat_acted_in_part_none (Ask lock) (Acquire lock ∷ ks ++ Release lock ∷ []) (record {
      same = undone.inside.besides.stays.same;
      deeds_are = undone.inside.besides.deeds_are;
      held_is = undone.inside.held_is;
    })
seat_acted_in_part_asked {m} {n} lock ks (inr begun) = record {
  done = Ask lock ∷ [];
  next = Acquire lock;
  later = ks ++ Release lock ∷ [];
  all = refl;
  acted = record { same = begun.besides.stays.same; deeds_are = begun.besides.deeds_are; held_is = begun.held_is };
}

-- the lock was acquired, and what then was to be done wasn't
pub seat_acted_in_part_held : {l m n : Local} (lock : ℕ) (ks : List Kind) → HasDone l m (Ask lock ∷ Acquire lock ∷ []) → HasActedInPart m n ks
    → HasActedInPart l n (tenure_of_lock lock ks)
seat_acted_in_part_held {l} {m} {n} lock ks locked part = record {
  done = Ask lock ∷ Acquire lock ∷ part.done;
  next = part.next;
  later = part.later ++ Release lock ∷ [];
  all = ap (λ es. Ask lock ∷ Acquire lock ∷ es ++ Release lock ∷ []) part.all
      ∙ ap (λ es. Ask lock ∷ Acquire lock ∷ es) (append_assoc part.done (part.next ∷ part.later) (Release lock ∷ []));
  acted = seat_acted_then (Ask lock ∷ Acquire lock ∷ []) part.done (seat_acted_closing (Ask lock ∷ Acquire lock ∷ []) locked refl) part.acted;
}

-- all was done but the release
pub seat_acted_in_part_unreleased : {l m n o : Local} (lock : ℕ) (ks : List Kind) → HasDone l m (Ask lock ∷ Acquire lock ∷ []) → HasActed m n ks
    → IsLeftUndone n o (Release lock) → HasActedInPart l o (tenure_of_lock lock ks)
seat_acted_in_part_unreleased lock ks locked acted (inl undone) = record {
  done = Ask lock ∷ Acquire lock ∷ ks;
  next = Release lock;
  later = [];
  all = refl;
  acted = subst (HasActed _ _) (append-nil (Ask lock ∷ Acquire lock ∷ ks))
      (seat_acted_then (Ask lock ∷ Acquire lock ∷ ks) []
      (seat_acted_then (Ask lock ∷ Acquire lock ∷ []) ks (seat_acted_closing (Ask lock ∷ Acquire lock ∷ []) locked refl) acted)
      (record {
        same = undone.inside.besides.stays.same;
        deeds_are = undone.inside.besides.deeds_are;
        held_is = undone.inside.held_is;
      }));
}
seat_acted_in_part_unreleased lock ks locked acted (inr begun) = absurd (let ends = begun.ends in cc)

-- what was added before, and by this
pub seat_acted_added : {m n : Local} {l a k x : ℕ} (ks : List Kind) → HasActed m n ks → AddsUpTo l a x ks → AddsUpTo l a k (seat_deeds m)
    → AddsUpTo l a (k + x) (seat_deeds n)
seat_acted_added {m} {n} {l} {a} {k} {x} ks acted more was =
    subst (AddsUpTo l a (k + x)) (sym acted.deeds_are) (added_tally_both (seat_deeds m) ks was more)

-- one word more
pub seat_acting_loads_push : (a : ℕ) (vs : List ℕ) (v : ℕ) → acting_loads_from a (vs ++ v ∷ []) ≡ acting_loads_from a vs ++ Load (length vs + a) v ∷ []
seat_acting_loads_push a [] v = ap (λ b. Load b v ∷ []) (let e : a ≡ 0 + a = omega arith in e)
seat_acting_loads_push a (w ∷ vs) v =
    ap (λ ks. Load a w ∷ ks) (seat_acting_loads_push (a + 1) vs v
    ∙ ap (λ b. acting_loads_from (a + 1) vs ++ Load b v ∷ []) (let e : length vs + (a + 1) ≡ length (w ∷ vs) + a = omega arith in e))

pub seat_acted_loads_more : {l m n : Local} {page : ℕ} (a b v : ℕ) (vs : List ℕ) → length vs + a ≡ b → HasActed l m (acting_loads_from a vs)
    → AccessesPage m n page (Load b v ∷ []) → HasActed l n (acting_loads_from a (vs ++ v ∷ []))
seat_acted_loads_more {l} {n = n} a b v vs is acted load =
    subst (HasActed l n) (ap (λ c. acting_loads_from a vs ++ Load c v ∷ []) (sym is) ∙ sym (seat_acting_loads_push a vs v))
    (seat_acted_then (acting_loads_from a vs) (Load b v ∷ []) acted (seat_acted_access (Load b v ∷ []) load refl refl))

-- none more
pub seat_acted_loads_none : {l m n : Local} {page : ℕ} (a : ℕ) (vs : List ℕ) → HasActed l m (acting_loads_from a vs) → AccessesPage m n page []
    → HasActed l n (acting_loads_from a vs)
seat_acted_loads_none {l} {n = n} a vs acted none =
    subst (HasActed l n) (append-nil (acting_loads_from a vs)) (seat_acted_then (acting_loads_from a vs) [] acted (seat_acted_access [] none refl refl))

-- a beginning of the first part, and not of what is behind it
pub seat_acted_in_part_front : {m n : Local} {ks : List Kind} (ls : List Kind) → HasActedInPart m n ks → HasActedInPart m n (ks ++ ls)
seat_acted_in_part_front ls part = record {
  done = part.done;
  next = part.next;
  later = part.later ++ ls;
  all = ap (λ es. es ++ ls) part.all ∙ append_assoc part.done (part.next ∷ part.later) ls;
  acted = part.acted;
}

-- the first part, and a beginning of what is behind it
pub seat_acted_in_part_then : {l m n : Local} {ls : List Kind} (ks : List Kind) → HasActed l m ks → HasActedInPart m n ls
    → HasActedInPart l n (ks ++ ls)
seat_acted_in_part_then ks acted part = record {
  done = ks ++ part.done;
  next = part.next;
  later = part.later;
  all = ap (λ es. ks ++ es) part.all ∙ sym (append_assoc ks part.done (part.next ∷ part.later));
  acted = seat_acted_then ks part.done acted part.acted;
}
