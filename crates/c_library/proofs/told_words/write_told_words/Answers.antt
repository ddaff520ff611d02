use Rattle.std.proofs.Common.{◌≡◌, ◌∙◌, ◌+◌, ◌<◌, ◌≤◌, ◌⊎◌, ℕ, inl, inr, List, Some, length, slice_get, slice_set, slice_index_or, ap, sym, arith}
use Rattle.std.proofs.lemmas.Bool.{cases_eq}
use Rattle.std.proofs.lemmas.List.{length-set}
use Rattle.std.proofs.lemmas.Option.{same_Some, slice_get-get_or, slice_get_within}
use Rattle.base.proofs.SliceSets.{slice_get-set_other, slice_get-set_same}
use Rattle.judge.specs.declared.locksets.lockset_finder.Unprotected.{Unprotected}
use Rattle.c_library.specs.declared.told_words.ToldWord.{ToldWord}
use Rattle.c_library.specs.ToldWords.{told_word_of}
use Rattle.c_library.proofs.told_words.write_told_words.Goals as goal
use Rattle.c_library.proofs.told_words.write_told_words.Goals.{then-place-found, else-place-found}

-- the word that is there
word_at : (found : List Unprotected) (place : ℕ) (d u : Unprotected) → slice_get found place ≡ Some u → slice_index_or found place d ≡ u
word_at found place d u at = same_Some _ _ (sym (slice_get-get_or found place d (slice_get_within found place u at)) ∙ at)

-- the words up to this one, which is written
told_next : (found : List Unprotected) (room : List ToldWord) (place k : ℕ) (d u : Unprotected) (v : ToldWord) → place < length room
    → v ≡ told_word_of (slice_index_or found place d)
    → (k < place → slice_get found k ≡ Some u → slice_get room k ≡ Some (told_word_of u)) → k < place + 1 → slice_get found k ≡ Some u
    → slice_get (slice_set room place v) k ≡ Some (told_word_of u)
told_next found room place k d u v within is before less at = elim (cases_eq k place) [
  | inl same ↦
      ap (slice_get (slice_set room place v)) same ∙ slice_get-set_same room place v within
      ∙ ap Some (is ∙ ap told_word_of (word_at found place d u (ap (slice_get found) (sym same) ∙ at)))
  | inr other ↦ slice_get-set_other room place k v other ∙ before (omega (arith, less, other)) at
]

-- what stays
stays_next : (found : List Unprotected) (old room : List ToldWord) (place k : ℕ) (v : ToldWord) → place < length found
    → ((place ≤ k) ⊎ (length found ≤ k) → slice_get room k ≡ slice_get old k) → (place + 1 ≤ k) ⊎ (length found ≤ k)
    → slice_get (slice_set room place v) k ≡ slice_get old k
stays_next found old room place k v there before (inl h) = slice_get-set_other room place k v (λ same. absurd (omega (arith, same, h))) ∙ before (inl (omega (arith, h)))
stays_next found old room place k v there before (inr h) =
    slice_get-set_other room place k v (λ same. absurd (omega (arith, same, h, there))) ∙ before (inr h)

-- where nothing is written
stays_later : (found : List Unprotected) (place k : ℕ) → (place + 1 ≤ k) ⊎ (length found ≤ k) → (place ≤ k) ⊎ (length found ≤ k)
stays_later found place k (inl h) = inl (omega (arith, h))
stays_later found place k (inr h) = inr h

pub loop-place-preserved : goal.loop-place-preserved
loop-place-preserved c =
    let found = c.args.found.now in
    let room = c.loop-place.room in
    let place = c.loop-place.place in
    let before = c.loop-place.invariant in
    let within : place < length room = omega (arith, c.loop-place-test.true, c.loop-place.auto.place-end, before.long) in
    elim c.if-place-found.branch [
      | then-place-found w ↦
          record {
            long = ap length w.room-is ∙ length-set room place w.told_word.result ∙ before.long;
            told = λ k u less at. ap (λ (r : List ToldWord). slice_get r k) w.room-is
                ∙ told_next found room place k _ u w.told_word.result within w.told_word.ensures (before.told k u) less at;
            stays = λ k h. ap (λ (r : List ToldWord). slice_get r k) w.room-is
                ∙ stays_next found c.args.room.now room place k w.told_word.result w.if-place-found.true (before.stays k) h;
          }
      | else-place-found w ↦
          record {
            long = ap length w.room-is ∙ before.long;
            told = λ k u less at. ap (λ (r : List ToldWord). slice_get r k) w.room-is
                ∙ before.told k u (omega (arith, w.if-place-found.false, slice_get_within found k u at)) at;
            stays = λ k h. ap (λ (r : List ToldWord). slice_get r k) w.room-is ∙ before.stays k (stays_later found place k h);
          }
    ]
