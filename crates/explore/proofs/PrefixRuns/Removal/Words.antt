-- An event left out: loads answer the same, where it doesn't store their word.
use Rattle.std.proofs.Common.{ℕ, ◌≡◌, ◌≢◌, ◌<◌, inl, inr, List, [], ◌∷◌, ◌++◌, Option, Some, None, length, slice_get, slice_set, refl, sym, ap, ◌∙◌, arith}
use Rattle.std.proofs.lemmas.Bool.{cases_eq}
use Rattle.std.proofs.lemmas.Option.{slice_get_within}
use Rattle.base.specs.LastWrite.{wrote, written}
use Rattle.base.proofs.SliceSets.{slice_get-set_same, slice_get-set_other}
use Rattle.base.proofs.LastWritten.{length-written, written-append}
use Rattle.journal.specs.declared.event.Event.{Event}
use Rattle.journal.specs.declared.event.Kind.{Kind}
use Rattle.journal.specs.declared.event.Kind.TheVariants.{Load}
use Rattle.journal.specs.DidEvent.{event}
use Rattle.journal.specs.Events.{event_address, event_stores}
use Rattle.journal.specs.Races.{Conflict}
use Rattle.journal.specs.ReplayMemory.{replay_memory_write, memory_after, AnswersReplayMemory}
use Rattle.journal.proofs.Flat.FlatConflicts.{flat_conflict_store_is}

-- words that agree at a place still do after the same write
removal_words_agree_after_write : (m n : List ℕ) (p : Option (ℕ × ℕ)) (o : ℕ) → o < length m → length m ≡ length n
    → slice_get m o ≡ slice_get n o → slice_get (wrote m p) o ≡ slice_get (wrote n p) o
removal_words_agree_after_write m n None o lt long same = same
removal_words_agree_after_write m n (Some p) o lt long same = elim (cases_eq o p.0) [
  | inl is ↦
      (let in_m : p.0 < length m = omega arith in
      let in_n : p.0 < length n = omega arith in
      ap (slice_get (slice_set m p.0 p.1)) is ∙ slice_get-set_same m p.0 p.1 in_m
      ∙ sym (slice_get-set_same n p.0 p.1 in_n) ∙ ap (slice_get (slice_set n p.0 p.1)) (sym is))
  | inr isnt ↦ slice_get-set_other m p.0 o p.1 isnt ∙ same ∙ sym (slice_get-set_other n p.0 o p.1 isnt)
]

-- and after the same writes
removal_words_agree_after_writes : {A : Type 0} (f : A → Option (ℕ × ℕ)) (m n : List ℕ) (xs : List A) (o : ℕ) → o < length m
    → length m ≡ length n → slice_get m o ≡ slice_get n o
    → slice_get (written f m xs) o ≡ slice_get (written f n xs) o
removal_words_agree_after_writes f m n [] o lt long same = same
removal_words_agree_after_writes f m n (x ∷ xs) o lt long same =
    let long_m = length-written f m (x ∷ []) in
    let long_n = length-written f n (x ∷ []) in
    removal_words_agree_after_writes f (wrote m (f x)) (wrote n (f x)) xs o (omega arith) (omega arith)
    (removal_words_agree_after_write m n (f x) o lt long same)

-- a write elsewhere leaves the place
removal_words_others_write : (m : List ℕ) (p : Option (ℕ × ℕ)) (o : ℕ) → ((u : ℕ) → p ≢ Some (o, u))
    → slice_get (wrote m p) o ≡ slice_get m o
removal_words_others_write m None o h = refl
removal_words_others_write m (Some p) o h = slice_get-set_other m p.0 o p.1 (λ is. h p.1 (ap (λ (a : ℕ). Some (a, p.1)) (sym is)))

-- so without it the same stands there in the end
removal_words_left_after_writes : {A : Type 0} (f : A → Option (ℕ × ℕ)) (m : List ℕ) (xs ys : List A) (x : A) (o : ℕ) → o < length m
    → ((u : ℕ) → f x ≢ Some (o, u)) → slice_get (written f m (xs ++ x ∷ ys)) o ≡ slice_get (written f m (xs ++ ys)) o
removal_words_left_after_writes f m xs ys x o lt h =
    let before : List ℕ = written f m xs in
    let long_before = length-written f m xs in
    let long_more = length-written f before (x ∷ []) in
    ap (λ ws. slice_get ws o) (written-append f m xs (x ∷ ys))
    ∙ removal_words_agree_after_writes f (wrote before (f x)) before ys o (omega arith) long_more (removal_words_others_write before (f x) o h)
    ∙ ap (λ ws. slice_get ws o) (sym (written-append f m xs ys))

-- a load that doesn't conflict with the event answers the same without it
pub removal_words_answers_left : (memory : List ℕ) (a b : List Event) (x : Event) (q : ℕ) (k : Kind) → ¬ Conflict x (event q k)
    → AnswersReplayMemory (memory_after memory (a ++ x ∷ b)) k → AnswersReplayMemory (memory_after memory (a ++ b)) k
removal_words_answers_left memory a b x q (Load w v) apart h =
    let f : Event → Option (ℕ × ℕ) = λ e. replay_memory_write e.kind in
    let long = length-written f memory (a ++ x ∷ b) in
    let within = slice_get_within (memory_after memory (a ++ x ∷ b)) w v h in
    sym (removal_words_left_after_writes f memory a b x w (omega arith) (λ u writes.
    (let is = flat_conflict_store_is x.kind w u writes in
    apart (record { address = w; first = ap event_address is; second = refl; stores = inl (ap event_stores is) })))) ∙ h
removal_words_answers_left memory a b x q _ apart h = h
