-- One round: each word is made by who owns it, or left.
use Rattle.std.proofs.Common.{ℕ, ◌≡◌, ◌≢◌, ◌<◌, ◌≤◌, ◌⊎◌, inl, inr, true, false, Option, Some, None, List, [], length, slice_get, zero, suc, refl, sym, ap, subst, ◌∙◌, arith}
use Rattle.std.proofs.lemmas.Bool.{cases_Bool, cases_lt}
use Rattle.std.proofs.lemmas.Option.{slice_get_past}
use Rattle.base.specs.LastWrite.{written}
use Rattle.base.proofs.SliceSets.{slice_sets_same}
use Rattle.journal.specs.declared.event.Kind.{Kind}
use Rattle.journal.specs.ReplayMemory.{replay_memory_write}
use Rattle.seats.specs.declared.guard.Guard.{Guard}
use Rattle.seats.specs.declared.guard.Guard.TheVariants.{Under, Of, Shared, Open}
use Rattle.seats.specs.Rounds.{AreRoundsFull, HasMade, Rounds, rounds_after}
use Rattle.seats.specs.Tenures.{TenureAnswersFrom}

-- the memory after each round has as many words
pub round_made_long : (r : Rounds) (processors n : ℕ) (memory : List ℕ) → AreRoundsFull r processors → length memory ≡ r.words
    → length (rounds_after r n memory) ≡ r.words
round_made_long r processors zero memory covered long = long
round_made_long r processors (suc n) memory covered long =
    covered.long n (rounds_after r n memory) (round_made_long r processors n memory covered long)

-- a word is one processor's own, or nobody's
pub round_made_owner : (o : Option Guard) → ((p : ℕ) × (o ≡ Some (Of p))) ⊎ ((p : ℕ) → o ≢ Some (Of p))
round_made_owner None = inr (λ p e. absurd (cc))
round_made_owner (Some (Under l)) = inr (λ p e. absurd (cc))
round_made_owner (Some (Of q)) = inl (q, refl)
round_made_owner (Some Shared) = inr (λ p e. absurd (cc))
round_made_owner (Some Open) = inr (λ p e. absurd (cc))

-- what stands in a round: the guards of its phase, the memory before it, what each processor has accessed in it, and the
-- memory now
pub record IsRoundBeingMade (owners : ℕ → Option Guard) (before : List ℕ) (parts : ℕ → List Kind) (now : List ℕ) : Type 0 where
  pub own : (p a : ℕ) → owners a ≡ Some (Of p) → slice_get now a ≡ slice_get (written replay_memory_write before (parts p)) a
  pub rest : (a : ℕ) → ((p : ℕ) → owners a ≢ Some (Of p)) → slice_get now a ≡ slice_get before a
  pub apart : (p a : ℕ) → owners a ≢ Some (Of p) → slice_get (written replay_memory_write before (parts p)) a ≡ slice_get before a
  pub answers : (p : ℕ) → TenureAnswersFrom before (parts p)

-- if each processor has made its words, the memory is that after the round
pub round_made : {owners : ℕ → Option Guard} {before : List ℕ} {parts : ℕ → List Kind} {now : List ℕ} (r : Rounds)
    (processors n : ℕ) → IsRoundBeingMade owners before parts now → AreRoundsFull r processors → length before ≡ r.words
    → length now ≡ r.words → ((p : ℕ) → p < processors → HasMade r n (r.makes n p) (parts p))
    → ((p : ℕ) → processors ≤ p → parts p ≡ []) → now ≡ r.after n before
round_made {owners} {before} {parts} {now} r processors n amid covered long same_long made nobody = slice_sets_same now (r.after n before) same
  where
    -- a word that its owner hasn't made
    left : (a : ℕ) → a < r.words → ((p : ℕ) → p < processors → r.makes n p a ≡ true → owners a ≢ Some (Of p))
        → slice_get before a ≡ slice_get (r.after n before) a
    left a less free = elim (covered.each n before a long less) [
      | inr kept ↦ sym kept
      | inl one ↦ sym (amid.apart one.0 a (free one.0 one.1 one.2))
          ∙ (let by = (made one.0 one.1).each before a long (amid.answers one.0) in rw one.2 at by)
    ]

    owned : (a p : ℕ) → a < r.words → owners a ≡ Some (Of p) → slice_get now a ≡ slice_get (r.after n before) a
    owned a p less mine = elim (cases_lt p processors) [
      | inr past ↦ amid.own p a mine ∙ ap (λ es. slice_get (written replay_memory_write before es) a) (nobody p past)
          ∙ left a less (λ q lt makes theirs. absurd (let same : Some (Of p) ≡ Some (Of q) = sym mine ∙ theirs in
          let is : p ≡ q = cc in omega (arith, is, lt, past)))
      | inl lt ↦ amid.own p a mine ∙ elim (cases_Bool (r.makes n p a)) [
        | inl makes ↦ (let by = (made p lt).each before a long (amid.answers p) in rw makes at by)
        | inr none ↦ (let by = (made p lt).each before a long (amid.answers p) in
            let was : slice_get (written replay_memory_write before (parts p)) a ≡ slice_get before a = rw none at by in was)
            ∙ left a less (λ q _ makes theirs. absurd (let same : Some (Of p) ≡ Some (Of q) = sym mine ∙ theirs in
            let is : p ≡ q = cc in
            let both : true ≡ false = sym makes ∙ ap (λ i. r.makes n i a) (sym is) ∙ none in cc))
      ]
    ]

    same : (a : ℕ) → slice_get now a ≡ slice_get (r.after n before) a
    same a = elim (cases_lt a r.words) [
      | inr past ↦ slice_get_past now a (omega (arith, same_long, past))
          ∙ sym (slice_get_past (r.after n before) a (let all = covered.long n before long in omega (arith, all, past)))
      | inl less ↦ elim (round_made_owner (owners a)) [
        | inl owner ↦ owned a owner.0 less owner.1
        | inr none ↦ amid.rest a none ∙ left a less (λ p lt makes. none p)
      ]
    ]

-- before the first access of a round
pub round_made_start : (owners : ℕ → Option Guard) (before now : List ℕ) (parts : ℕ → List Kind) → ((p : ℕ) → parts p ≡ [])
    → now ≡ before → IsRoundBeingMade owners before parts now
round_made_start owners before now parts none is = record {
  own = λ p a mine. ap (λ m. slice_get m a) is ∙ sym (ap (λ es. slice_get (written replay_memory_write before es) a) (none p));
  rest = λ a free. ap (λ m. slice_get m a) is;
  apart = λ p a free. ap (λ es. slice_get (written replay_memory_write before es) a) (none p);
  answers = λ p. subst (TenureAnswersFrom before) (sym (none p)) tt;
}
