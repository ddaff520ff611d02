-- Names, and what events of a name did.
use Rattle.std.proofs.Common.{◌≡◌, ℕ, true, false, cond, List, [], ◌∷◌, length, Option, Some, None, refl, ap, subst, ◌∙◌, arith}
use Rattle.std.specs.Str.{bytes_eq}
use Rattle.std.proofs.lemmas.Slice.Eq.{bytes_eq-Decides}
use Rattle.journal.specs.declared.event.Kind.{Kind}
use Rattle.journal.specs.declared.event.Kind.TheVariants as kind
use Rattle.lrc_check.specs.declared.traces.event_name.EventName.{EventName}
use Rattle.lrc_check.specs.declared.traces.event_name.EventName.TheVariants.{Load, Store, Fetch, Ask, Acquire, Release, Arrive, Depart, Set, Watch, Await}
use Rattle.lrc_check.specs.Traces.Names.{trace_name_operand_count, trace_name_meaning, trace_name_of_word, trace_name_numbers, trace_name_word}

-- the name of what an event did
abbrev pub named_kind_name : Kind → EventName
named_kind_name (kind.Load a v) = Load
named_kind_name (kind.Store a v) = Store
named_kind_name (kind.Fetch w n r d) = Fetch
named_kind_name (kind.Ask l) = Ask
named_kind_name (kind.Acquire l) = Acquire
named_kind_name (kind.Release l) = Release
named_kind_name kind.Arrive = Arrive
named_kind_name kind.Depart = Depart
named_kind_name (kind.Set f) = Set
named_kind_name (kind.Watch f) = Watch
named_kind_name (kind.Await f) = Await

named_kind_spelled_if : (w : List ℕ) (n : EventName) (rest : Option EventName) (found : EventName)
    → (rest ≡ Some found → w ≡ trace_name_word found) → cond (bytes_eq w (trace_name_word n)) (Some n) rest ≡ Some found
    → w ≡ trace_name_word found
named_kind_spelled_if w n rest found later e =
    elim (bytes_eq w (trace_name_word n)) as
    (λ b. bytes_eq w (trace_name_word n) ≡ b → cond b (Some n) rest ≡ Some found → w ≡ trace_name_word found) [
      | true ↦ λ t h. let same : n ≡ found = cc in (bytes_eq-Decides w (trace_name_word n)).0 t ∙ ap trace_name_word same
      | false ↦ λ t h. later h
    ] refl e

-- a word that is read as a name is how it is written
pub named_kind_spelled : (w : List ℕ) (n : EventName) → trace_name_of_word w ≡ Some n → w ≡ trace_name_word n
named_kind_spelled w n e =
    named_kind_spelled_if w Load _ n
    (named_kind_spelled_if w Store _ n (named_kind_spelled_if w Fetch _ n (named_kind_spelled_if w Ask _ n (named_kind_spelled_if w Acquire _ n
    (named_kind_spelled_if w Release _ n (named_kind_spelled_if w Arrive _ n (named_kind_spelled_if w Depart _ n (named_kind_spelled_if w Set _ n
    (named_kind_spelled_if w Watch _ n (named_kind_spelled_if w Await _ n (λ h. absurd cc))))))))))) e

-- what is written as a name is read as it
pub named_kind_spelled_again : (n : EventName) → trace_name_of_word (trace_name_word n) ≡ Some n
named_kind_spelled_again Load = refl
named_kind_spelled_again Store = refl
named_kind_spelled_again Fetch = refl
named_kind_spelled_again Ask = refl
named_kind_spelled_again Acquire = refl
named_kind_spelled_again Release = refl
named_kind_spelled_again Arrive = refl
named_kind_spelled_again Depart = refl
named_kind_spelled_again Set = refl
named_kind_spelled_again Watch = refl
named_kind_spelled_again Await = refl

-- two names aren't written alike
pub named_kinds_differ : (n m : EventName) → trace_name_word n ≡ trace_name_word m → n ≡ m
named_kinds_differ n m e =
    let first = named_kind_spelled_again n in let second = named_kind_spelled_again m in let both = ap trace_name_of_word e in
    let same : Some n ≡ Some m = cc in cc

-- what is read of a name and numbers has this name and these numbers
pub record IsNamedKind (n : EventName) (ns : List ℕ) (k : Kind) : Type 0 where
  pub name_is : n ≡ named_kind_name k
  pub numbers_are : ns ≡ trace_name_numbers k

named_kind_same : (n : EventName) (ns : List ℕ) (j k : Kind) → Some j ≡ Some k → IsNamedKind n ns j → IsNamedKind n ns k
named_kind_same n ns j k e h = let same : j ≡ k = cc in subst (IsNamedKind n ns) same h

pub named_kind_taken : (n : EventName) (ns : List ℕ) (k : Kind) → trace_name_meaning n ns ≡ Some k → IsNamedKind n ns k
named_kind_taken Load (a ∷ v ∷ []) k e = named_kind_same _ _ _ k e (record { name_is = refl; numbers_are = refl })
named_kind_taken Load _ k e = absurd cc
named_kind_taken Store (a ∷ v ∷ []) k e = named_kind_same _ _ _ k e (record { name_is = refl; numbers_are = refl })
named_kind_taken Store _ k e = absurd cc
named_kind_taken Fetch (n ∷ w ∷ r ∷ d ∷ []) k e = named_kind_same _ _ _ k e (record { name_is = refl; numbers_are = refl })
named_kind_taken Fetch _ k e = absurd cc
named_kind_taken Ask (l ∷ []) k e = named_kind_same _ _ _ k e (record { name_is = refl; numbers_are = refl })
named_kind_taken Ask _ k e = absurd cc
named_kind_taken Acquire (l ∷ []) k e = named_kind_same _ _ _ k e (record { name_is = refl; numbers_are = refl })
named_kind_taken Acquire _ k e = absurd cc
named_kind_taken Release (l ∷ []) k e = named_kind_same _ _ _ k e (record { name_is = refl; numbers_are = refl })
named_kind_taken Release _ k e = absurd cc
named_kind_taken Arrive [] k e = named_kind_same _ _ _ k e (record { name_is = refl; numbers_are = refl })
named_kind_taken Arrive _ k e = absurd cc
named_kind_taken Depart [] k e = named_kind_same _ _ _ k e (record { name_is = refl; numbers_are = refl })
named_kind_taken Depart _ k e = absurd cc
named_kind_taken Set (f ∷ []) k e = named_kind_same _ _ _ k e (record { name_is = refl; numbers_are = refl })
named_kind_taken Set _ k e = absurd cc
named_kind_taken Watch (f ∷ []) k e = named_kind_same _ _ _ k e (record { name_is = refl; numbers_are = refl })
named_kind_taken Watch _ k e = absurd cc
named_kind_taken Await (f ∷ []) k e = named_kind_same _ _ _ k e (record { name_is = refl; numbers_are = refl })
named_kind_taken Await _ k e = absurd cc

-- the name and the numbers of what an event did are read as that
pub named_kind_again : (k : Kind) → trace_name_meaning (named_kind_name k) (trace_name_numbers k) ≡ Some k
named_kind_again (kind.Load a v) = refl
named_kind_again (kind.Store a v) = refl
named_kind_again (kind.Fetch w n r d) = refl
named_kind_again (kind.Ask l) = refl
named_kind_again (kind.Acquire l) = refl
named_kind_again (kind.Release l) = refl
named_kind_again kind.Arrive = refl
named_kind_again kind.Depart = refl
named_kind_again (kind.Set f) = refl
named_kind_again (kind.Watch f) = refl
named_kind_again (kind.Await f) = refl

-- there are as many numbers as stand behind the name
pub named_kind_numbers_counted : (k : Kind) → length (trace_name_numbers k) ≡ trace_name_operand_count (named_kind_name k)
named_kind_numbers_counted (kind.Load a v) = refl
named_kind_numbers_counted (kind.Store a v) = refl
named_kind_numbers_counted (kind.Fetch w n r d) = refl
named_kind_numbers_counted (kind.Ask l) = refl
named_kind_numbers_counted (kind.Acquire l) = refl
named_kind_numbers_counted (kind.Release l) = refl
named_kind_numbers_counted kind.Arrive = refl
named_kind_numbers_counted kind.Depart = refl
named_kind_numbers_counted (kind.Set f) = refl
named_kind_numbers_counted (kind.Watch f) = refl
named_kind_numbers_counted (kind.Await f) = refl

-- so many numbers are read
pub named_kind_counted : (n : EventName) (ns : List ℕ) → length ns ≡ trace_name_operand_count n → trace_name_meaning n ns ≡ None → ⊥
named_kind_counted Load (a ∷ v ∷ []) l e = absurd cc
named_kind_counted Load _ l e = absurd (omega arith)
named_kind_counted Store (a ∷ v ∷ []) l e = absurd cc
named_kind_counted Store _ l e = absurd (omega arith)
named_kind_counted Fetch (n ∷ w ∷ r ∷ d ∷ []) l e = absurd cc
named_kind_counted Fetch _ l e = absurd (omega arith)
named_kind_counted Ask (k ∷ []) l e = absurd cc
named_kind_counted Ask _ l e = absurd (omega arith)
named_kind_counted Acquire (k ∷ []) l e = absurd cc
named_kind_counted Acquire _ l e = absurd (omega arith)
named_kind_counted Release (k ∷ []) l e = absurd cc
named_kind_counted Release _ l e = absurd (omega arith)
named_kind_counted Arrive [] l e = absurd cc
named_kind_counted Arrive _ l e = absurd (omega arith)
named_kind_counted Depart [] l e = absurd cc
named_kind_counted Depart _ l e = absurd (omega arith)
named_kind_counted Set (f ∷ []) l e = absurd cc
named_kind_counted Set _ l e = absurd (omega arith)
named_kind_counted Watch (f ∷ []) l e = absurd cc
named_kind_counted Watch _ l e = absurd (omega arith)
named_kind_counted Await (f ∷ []) l e = absurd cc
named_kind_counted Await _ l e = absurd (omega arith)
