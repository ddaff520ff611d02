-- What is chosen of the next events may be followed alone.
use Rattle.std.proofs.Common.{ℕ, ◌≡◌, ◌↔◌, ◌⊎◌, inl, inr, Bool, true, false, IsTrue, List, ◌++◌, Option, Some, slice_index_or, refl, sym, ap, subst, ◌∙◌, ◌<◌, length, arith}
use Rattle.std.specs.Prelude.{None, ◌==◌, ◌||◌, not}
use Rattle.std.specs.Global.{Vec}
use Rattle.std.proofs.lemmas.Bool.{eq-eqb, eqb-true, false≢true}
use Rattle.journal.specs.declared.event.Event.{Event}
use Rattle.journal.specs.declared.event.Kind.{Kind}
use Rattle.journal.specs.declared.event.Kind.TheVariants.{Ask}
use Rattle.journal.specs.DidEvent.{did, event}
use Rattle.journal.specs.WellFormed.{Holds}
use Rattle.lrc_script.specs.Plan.{Plan}
use Rattle.explore.specs.declared.prefixes.script_call.ScriptCall.{ScriptCall}
use Rattle.explore.specs.FlatSearch.{ArePassedOver, FlatSearchFollows, FlatSearchFollowsAsks, IsAskFollowed}
use Rattle.explore.specs.FreeChoice.{AreFreeChoiceAsks, AreHopelessAsks, IsFreeChoice, IsPersistentChoice}
use Rattle.explore.specs.KeptWaiting.{TellsKeptWaiting}
use Rattle.explore.specs.Machines.{AreLawfulMachineSteps}
use Rattle.explore.specs.PersistentSets.{AsksInPersistentSet, IsLockFree, IsPersistentMember}
use Rattle.explore.specs.Prefixes.FlatBeginnings.{IsFlatBeginning}
use Rattle.explore.specs.WaitCodes.{wait_code_holder, wait_code_nobody}
use Rattle.explore.specs.declared.state.waits.Waiting.{Waiting}
use Rattle.explore.proofs.MachineSteps.{machine_step_next_within, machine_step_rows_many}
use Rattle.explore.proofs.Reduced.Later.{later_ask}
use Rattle.explore.proofs.Reduced.Persistent.{ArePersistentlyOver, persistent_first, persistent_hopeless_ask, persistent_rivals}

chosen_bool : (b : Bool) → (b ≡ true) ⊎ (b ≡ false)
chosen_bool true = inl refl
chosen_bool false = inr refl

-- an event that doesn't ask for the lock
abbrev chosen_no_ask : ℕ → Kind → Bool
chosen_no_ask lock (Ask l) = not (l == lock)
chosen_no_ask lock k = true

chosen_ask_opens : (lock : ℕ) → chosen_no_ask lock (Ask lock) ≡ false
chosen_ask_opens lock = ap not (eq-eqb lock lock refl)

chosen_opens_ask : (lock : ℕ) (k : Kind) → chosen_no_ask lock k ≡ false → k ≡ Ask lock
chosen_opens_ask lock (Ask l) opens = elim (chosen_bool (l == lock)) [
  | inl is ↦ ap Ask (eqb-true l lock is)
  | inr isnt ↦ absurd (false≢true (sym opens ∙ ap not isnt))
]
chosen_opens_ask lock k opens = absurd (false≢true (sym opens))

-- an ask for a lock that is held
abbrev chosen_in_vain : (ℕ → Bool) → Kind → Bool
chosen_in_vain held (Ask l) = held l
chosen_in_vain held k = false

abbrev chosen_some : {A : Type 0} → Option A → Bool
chosen_some None = false
chosen_some (Some a) = true

module _ (s : Plan) (rows : List (Vec ScriptCall)) (steps : AreLawfulMachineSteps s rows) (g : List Event) (nexts chosen : List (Option Kind))
    (V : List Event → Type 0) (are : (p : ℕ) (k : Kind) → (slice_index_or nexts p None ≡ Some k) ↔ IsFlatBeginning s (did g p k))
    (x : Waiting) (tells : TellsKeptWaiting g x)
    (known : (p : ℕ) (k : Kind) → slice_index_or chosen p None ≡ Some k → V (did g p k)) where
  -- the asks for one lock
  chosen_follows_asks : AreFreeChoiceAsks rows g nexts chosen → FlatSearchFollowsAsks s V g
  chosen_follows_asks c = record {
    passed = λ e. chosen_no_ask c.lock e.kind;
    processor = c.processor;
    lock = c.lock;
    some = ask c.processor c.asks;
    first = λ more p k over next opens.
        let is = chosen_opens_ask c.lock k opens in
        let later = later_ask s rows steps g more p c.lock (subst (λ i. IsFlatBeginning s (did (g ++ more) p i)) is next) in
        (c.lock, is, ask p (c.others p later));
  }
    where
      ask : (p : ℕ) → slice_index_or nexts p None ≡ Some (Ask c.lock) → IsAskFollowed s V (λ e. chosen_no_ask c.lock e.kind) g p c.lock
      ask p next = record {
        next = (are p (Ask c.lock)).0 next;
        found = known p (Ask c.lock) (c.all p next);
        rivals = λ more q later. chosen_ask_opens c.lock;
      }

  -- the asks for one lock where nobody will ever ask for a free one
  chosen_follows_hopeless : AreHopelessAsks rows g nexts chosen → FlatSearchFollowsAsks s V g
  chosen_follows_hopeless c = record {
    passed = λ e. chosen_no_ask c.lock e.kind;
    processor = c.processor;
    lock = c.lock;
    some = ask c.processor c.asks;
    first = λ more p k over next opens.
        let is = chosen_opens_ask c.lock k opens in (
          c.lock,
          is,
          ask p (persistent_hopeless_ask s rows steps g nexts are c.hopeless.members c.hopeless.set c.hopeless.everybody c.hopeless.none more p
              c.lock
              (subst (λ i. IsFlatBeginning s (did (g ++ more) p i)) is next)),
        );
  }
    where
      ask : (p : ℕ) → slice_index_or nexts p None ≡ Some (Ask c.lock) → IsAskFollowed s V (λ e. chosen_no_ask c.lock e.kind) g p c.lock
      ask p next = record {
        next = (are p (Ask c.lock)).0 next;
        found = known p (Ask c.lock) (c.all p next);
        rivals = λ more q later. chosen_ask_opens c.lock;
      }

  -- who may do something next is there
  chosen_present : (p : ℕ) (k : Kind) → IsFlatBeginning s (did g p k) → p < length rows
  chosen_present p k next =
      let within = machine_step_next_within s g p k next in
      let many = machine_step_rows_many s rows steps in
      omega (arith, within, many)

  -- the asks of a persistent set
  module _ (c : IsPersistentChoice rows g nexts chosen) where
    abbrev chosen_held : ℕ → Bool
    chosen_held l = chosen_some (wait_code_holder (slice_index_or x.holders l wait_code_nobody))

    chosen_held_by : (l : ℕ) → IsTrue (chosen_held l) → (q : ℕ) × Holds g q l
    chosen_held_by l is = by (wait_code_holder (slice_index_or x.holders l wait_code_nobody)) refl is
      where
        by : (o : Option ℕ) → wait_code_holder (slice_index_or x.holders l wait_code_nobody) ≡ o → IsTrue (chosen_some o) → (q : ℕ) × Holds g q l
        by (Some q) same is = (q, (tells.holders l q).0 same)
        by None same is = absurd (false≢true is)

    chosen_holder_held : (l q : ℕ) → Holds g q l → IsTrue (chosen_held l)
    chosen_holder_held l q holds = ap chosen_some ((tells.holders l q).1 holds)

    chosen_free_not_held : (l : ℕ) → IsLockFree g l → chosen_held l ≡ false
    chosen_free_not_held l free = elim (chosen_bool (chosen_held l)) [
      | inl is ↦ (let held = chosen_held_by l is in absurd (free held.0 held.1))
      | inr isnt ↦ isnt
    ]

    -- an event is passed over if it is no member's, or asks for a lock that is held
    abbrev chosen_passed : Event → Bool
    chosen_passed e = not (slice_index_or c.members e.processor false) || chosen_in_vain chosen_held e.kind

    chosen_in_vain_asks : (k : Kind) → IsTrue (chosen_in_vain chosen_held k) → (l : ℕ) × (k ≡ Ask l) × ((q : ℕ) × Holds g q l)
    chosen_in_vain_asks (Ask l) is = (l, refl, chosen_held_by l is)
    chosen_in_vain_asks k is = absurd (false≢true is)

    chosen_over : (more : List Event) → ArePassedOver chosen_passed more → ArePersistentlyOver g c.members more
    chosen_over more over m e at member = chosen_in_vain_asks e.kind (by (slice_index_or c.members e.processor false) member (over m e at))
      where
        by : (b : Bool) → IsTrue b → IsTrue (not b || chosen_in_vain chosen_held e.kind) → IsTrue (chosen_in_vain chosen_held e.kind)
        by true is both = both
        by false is both = absurd (false≢true is)

    chosen_member : (e : Event) → chosen_passed e ≡ false → IsPersistentMember c.members e.processor × (chosen_in_vain chosen_held e.kind ≡ false)
    chosen_member e = by (slice_index_or c.members e.processor false)
      where
        by : (b : Bool) → (not b || chosen_in_vain chosen_held e.kind) ≡ false → IsTrue b × (chosen_in_vain chosen_held e.kind ≡ false)
        by true opens = (refl, opens)
        by false opens = absurd (false≢true (sym opens))

    chosen_member_opens : (q l : ℕ) → IsPersistentMember c.members q → IsLockFree g l → chosen_passed (event q (Ask l)) ≡ false
    chosen_member_opens q l member free = by (slice_index_or c.members q false) member
      where
        by : (b : Bool) → IsTrue b → (not b || chosen_held l) ≡ false
        by true is = chosen_free_not_held l free
        by false is = absurd (false≢true is)

    chosen_ask : (p l : ℕ) → AsksInPersistentSet g nexts c.members p l → IsAskFollowed s V chosen_passed g p l
    chosen_ask p l ask = record {
      next = (are p (Ask l)).0 ask.next;
      found = known p (Ask l) (c.all p l (chosen_present p (Ask l) ((are p (Ask l)).0 ask.next)) ask);
      rivals = λ more q later.
          chosen_member_opens q l (persistent_rivals s rows steps g nexts are c.members c.has.set p l ask more q later) ask.free;
    }

    chosen_follows_set : FlatSearchFollowsAsks s V g
    chosen_follows_set = record {
      passed = chosen_passed;
      processor = c.has.processor;
      lock = c.has.lock;
      some = chosen_ask c.has.processor c.has.lock c.has.asks;
      first = λ more p k over next opens. chosen_first more p k over next (chosen_member (event p k) opens);
    }
      where
        chosen_first : (more : List Event) (p : ℕ) (k : Kind) → ArePassedOver chosen_passed more → IsFlatBeginning s (did (g ++ more) p k)
            → IsPersistentMember c.members p × (chosen_in_vain chosen_held k ≡ false) → (l : ℕ) × (k ≡ Ask l) × IsAskFollowed s V chosen_passed g p l
        chosen_first more p k over next own =
            elim (persistent_first s rows steps g nexts are c.members c.has.set more (chosen_over more over) p k own.0 next) [
              | inl vain ↦
                  (let held : IsTrue (chosen_in_vain chosen_held k) =
                  subst (λ i. IsTrue (chosen_in_vain chosen_held i)) (sym vain.1) (chosen_holder_held vain.0 vain.2.0 vain.2.1) in
                  absurd (false≢true (sym own.1 ∙ held)))
              | inr ask ↦ (ask.0, ask.1, chosen_ask p ask.0 ask.2)
            ]

  pub chosen_follows : IsFreeChoice rows g nexts chosen → FlatSearchFollows s rows V g
  chosen_follows (inl all) = inl (λ p k next. known p k (ap (λ os. slice_index_or os p None) all ∙ (are p k).1 next))
  chosen_follows (inr (inl one)) = inr (inl (record {
    processor = one.processor;
    kind = one.kind;
    free = one.free;
    next = (are one.processor one.kind).0 one.at;
    found = known one.processor one.kind one.chosen_at;
  }))
  chosen_follows (inr (inr (inl set))) = inr (inr (chosen_follows_set set))
  chosen_follows (inr (inr (inr (inl hopeless)))) = inr (inr (chosen_follows_hopeless hopeless))
  chosen_follows (inr (inr (inr (inr asks)))) = inr (inr (chosen_follows_asks asks))
