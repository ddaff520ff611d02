-- Words that are loaded one after another, and added up.
use Rattle.std.proofs.Common.{ℕ, ◌≡◌, ◌+◌, ◌%◌, ◌^◌, ◌<◌, List, [], ◌∷◌, ◌++◌, get_or, length, take, refl, sym, ap, subst, ◌∙◌, append-nil, arith}
use Rattle.std.proofs.lemmas.List.{length-take-le, length_push}
use Rattle.std.proofs.lemmas.List.Sums.{sum_by_push}
use Rattle.journal.specs.declared.event.Kind.{Kind}
use Rattle.journal.specs.declared.event.Kind.TheVariants.{Load}
use Rattle.cluster.specs.Copies.Local.{Local}
use Rattle.seats.specs.Acting.{HasActed, HasActedInPart, HasSummed, loads_at}
use Rattle.seats.specs.SeatCalls.{AccessesPage}
use Rattle.seats.proofs.SeatActing.{seat_acted_access, seat_acted_then}

summed_loads_push : (before : List ℕ) (a : ℕ) (words : List ℕ) (v : ℕ) → length words ≡ length before
    → loads_at (before ++ a ∷ []) (words ++ v ∷ []) ≡ loads_at before words ++ Load a v ∷ []
summed_loads_push [] a [] v e = refl
summed_loads_push [] a (w ∷ words) v e = absurd (cc)
summed_loads_push (b ∷ before) a [] v e = absurd (cc)
summed_loads_push (b ∷ before) a (w ∷ words) v e =
    ap (λ ks. Load b w ∷ ks) (summed_loads_push before a words v (omega (arith, e)))

-- one more
pub summed_push : {l m n : Local} {page s : ℕ} {before : List ℕ} (a v : ℕ) → HasSummed l m before s
    → AccessesPage m n page (Load a v ∷ []) → HasSummed l n (before ++ a ∷ []) ((s + v) % 2 ^ 32)
summed_push {l} {n = n} {s = s} {before = before} a v was load = record {
  words = was.words ++ v ∷ [];
  long = let long = was.long in let one = length_push was.words v in let two = length_push before a in omega arith;
  acted = subst (HasActed l n) (sym (summed_loads_push before a was.words v was.long))
      (seat_acted_then (loads_at before was.words) (Load a v ∷ []) was.acted (seat_acted_access (Load a v ∷ []) load refl refl));
  sum = let sum = was.sum in let more = sum_by_push (λ w. w) was.words v in omega arith;
}

-- words of these addresses, of which the first are those that were loaded
pub record IsSummedBeginning (addresses words : List ℕ) : Type 0 where
  pub all : List ℕ
  pub long : length all ≡ length addresses
  pub next : Kind
  pub later : List Kind
  pub loads : loads_at addresses all ≡ loads_at (take (length words) addresses) words ++ next ∷ later
  pub value : ℕ
  pub next_is : next ≡ Load (get_or addresses (length words) 0) value

pub summed_beginning : (addresses words : List ℕ) → length words < length addresses → IsSummedBeginning addresses words
summed_beginning [] words less = absurd (omega (arith, less))
summed_beginning (a ∷ others) [] less =
    record { all = 0 ∷ others; long = refl; next = Load a 0; later = loads_at others others; loads = refl; value = 0; next_is = refl }
summed_beginning (a ∷ others) (v ∷ words) less =
    let rest = summed_beginning others words (omega (arith, less)) in
    record {
      all = v ∷ rest.all;
      long = let long = rest.long in omega arith;
      next = rest.next;
      later = rest.later;
      loads = ap (λ ks. Load a v ∷ ks) rest.loads;
      value = rest.value;
      next_is = rest.next_is;
    }

-- a word wasn't loaded
pub summed_in_part : {l m n : Local} {page s : ℕ} (addresses : List ℕ) (i : ℕ) → i < length addresses
    → HasSummed l m (take i addresses) s → AccessesPage m n page []
    → (words : List ℕ) × (length words ≡ length addresses) × HasActedInPart l n (loads_at addresses words)
summed_in_part {l} {n = n} addresses i less was none =
    let i_is : length was.words ≡ i = was.long ∙ length-take-le i addresses (omega (arith, less)) in
    let part = summed_beginning addresses was.words (omega (arith, less, i_is)) in
    let front = loads_at (take i addresses) was.words in (
      part.all,
      part.long,
      record {
        done = front;
        next = part.next;
        later = part.later;
        all = part.loads ∙ ap (λ k. loads_at (take k addresses) was.words ++ part.next ∷ part.later) i_is;
        acted = subst (HasActed l n) (append-nil front) (seat_acted_then front [] was.acted (seat_acted_access [] none refl refl));
      },
    )
