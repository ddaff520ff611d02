-- What a cut tells of an event that comes next.
use Rattle.std.proofs.Common.{◌≡◌, ◌≢◌, ℕ, ◌+◌, ◌<◌, ◌≤◌, inl, inr, ◌↔◌, List, [], ◌∷◌, ◌++◌, drop, length, take, take-append-drop, false, subst, sym, refl, ap, ◌∙◌, arith}
use Rattle.std.specs.Prelude.{Some}
use Rattle.std.proofs.lemmas.Bool.{cases_lt}
use Rattle.std.proofs.lemmas.List.{length-take-le}
use Rattle.base.proofs.SlicesAndCounts.{slice_get-take}
use Rattle.journal.specs.declared.event.Event.{Event}
use Rattle.journal.specs.declared.event.Kind.{Kind}
use Rattle.journal.specs.declared.event.Kind.TheVariants.{Acquire, Depart, Await}
use Rattle.journal.specs.Events.{EventAt, event_address, event_takes}
use Rattle.journal.specs.HappensBeforeEdges.{HappensBefore}
use Rattle.journal.specs.Races.{Conflict, Race}
use Rattle.journal.specs.WellFormed.{Does}
use Rattle.judge.specs.CutRows.{cut_entry}
use Rattle.journal.proofs.Order.EventPlacesAndCounts.{event_place_inside, event_place_longer, event_place_at_end}
use Rattle.journal.proofs.Order.HappensBefore.{happens_before_longer, happens_before_shorter}
use Rattle.journal.proofs.Order.IntoPast.{into_past_reaches_new}
use Rattle.journal.proofs.Passes.NextClocks.{next_clocks_front}
use Rattle.judge.specs.declared.cuts.Cuts.{Cuts}
use Rattle.judge.specs.Cuts.{AreCuts, IsCutOf}

-- equal entries are one cut of a processor
pub cut_of_equal : (j : List Event) (p : ℕ) (t u : ℕ → ℕ) → ((q : ℕ) → t q ≡ u q) → IsCutOf j p t → IsCutOf j p u
cut_of_equal j p t u is a = record {
  covers =
      λ i e at apart. (let same = is e.processor in
      (λ h. (let lt = (a.covers i e at apart).0 h in omega arith), λ lt. (a.covers i e at apart).1 (omega arith)));
  within = λ q. (let same = is q in let within = a.within q in omega arith);
}

-- a processor that is there has its cut
pub cut_of_present : {j : List Event} {c : Cuts} → AreCuts j c → (p : ℕ) → p < c.present
    → IsCutOf j p (cut_entry c.processors p)
cut_of_present a p lt = a.cuts p lt

-- another processor's event happens before one that comes next and takes nothing, exactly if it is in the cut
pub cut_tells_happens_before : {j : List Event} {f : Event} {t : ℕ → ℕ} {i : ℕ} → (e : Event) → IsCutOf j e.processor t
    → event_takes e.kind ≡ false
    → EventAt j i f → f.processor ≢ e.processor → HappensBefore (j ++ e ∷ []) i (length j) ↔ (i < t f.processor)
cut_tells_happens_before {j = j} {f = f} {i = i} e cut quiet at apart =
    let new = into_past_reaches_new j e i quiet in
    let tells = cut.covers i f at apart in
    ((λ h. tells.0 (new.0 h)), (λ lt. new.1 (tells.1 lt)))

cut_of_access_quiet : (k : Kind) (a : ℕ) → event_address k ≡ Some a → event_takes k ≡ false
cut_of_access_quiet (Acquire l) a h = absurd cc
cut_of_access_quiet Depart a h = absurd cc
cut_of_access_quiet (Await f) a h = absurd cc
cut_of_access_quiet _ a h = refl

-- of two accesses that conflict, by two processors, the first races with the second, which comes next, exactly if it
-- isn't in the cut
pub cut_tells_race : {j : List Event} {e f : Event} {t : ℕ → ℕ} {i : ℕ} → IsCutOf j e.processor t → EventAt j i f
    → f.processor ≢ e.processor → Conflict f e → Race (j ++ e ∷ []) i (length j) ↔ (t f.processor ≤ i)
cut_tells_race {j = j} {e = e} {f = f} {t = t} {i = i} cut at apart conflict = (there, here)
  where
    tells : HappensBefore (j ++ e ∷ []) i (length j) ↔ (i < t f.processor)
    tells = cut_tells_happens_before e cut (cut_of_access_quiet e.kind conflict.address conflict.second) at apart

    there : Race (j ++ e ∷ []) i (length j) → t f.processor ≤ i
    there r = elim (cases_lt i (t f.processor)) [ inl below ↦ absurd (r.unordered (tells.1 below)) | inr le ↦ le ]

    here : t f.processor ≤ i → Race (j ++ e ∷ []) i (length j)
    here le = record {
      before = event_place_inside j i f at;
      first = f;
      second = e;
      first_at = event_place_longer j (e ∷ []) i f at;
      second_at = event_place_at_end j e;
      apart = apart;
      conflict = conflict;
      unordered = λ h. (let below = tells.0 h in omega arith);
    }

-- another processor's event happens before one at place n that takes nothing, exactly if it is in the cut
pub cut_tells_before_at : {j : List Event} {n i q : ℕ} {a : Kind} {e : Event} {t : ℕ → ℕ} → EventAt j n e → Does j i q a → i < n
    → q ≢ e.processor → event_takes e.kind ≡ false → IsCutOf (take n j) e.processor t → HappensBefore j i n ↔ (i < t q)
cut_tells_before_at {j = j} {n = n} {i = i} {q = q} {a = a} {e = e} {t = t} at does lt apart quiet cut = (below, above)
  where
    front : List Event
    front = take n j

    long : length front ≡ n
    long = length-take-le n j (let inside = event_place_inside j n e at in omega arith)

    whole : (front ++ e ∷ []) ++ drop (n + 1) j ≡ j
    whole = ap (λ xs. xs ++ drop (n + 1) j) (sym (next_clocks_front j n e at)) ∙ take-append-drop (n + 1) j

    tells : HappensBefore (front ++ e ∷ []) i (length front) ↔ (i < t q)
    tells = cut_tells_happens_before e cut quiet (slice_get-take j n i lt ∙ does) apart

    inside : length front < length (front ++ e ∷ [])
    inside = event_place_inside (front ++ e ∷ []) (length front) e (event_place_at_end front e)

    below : HappensBefore j i n → i < t q
    below h = tells.0 (happens_before_shorter (front ++ e ∷ []) (drop (n + 1) j) inside
        (subst (λ m. HappensBefore ((front ++ e ∷ []) ++ drop (n + 1) j) i m) (sym long)
        (subst (λ xs. HappensBefore xs i n) (sym whole) h)))

    above : i < t q → HappensBefore j i n
    above less = subst (λ xs. HappensBefore xs i n) whole
        (subst (λ m. HappensBefore ((front ++ e ∷ []) ++ drop (n + 1) j) i m) long
        (happens_before_longer (front ++ e ∷ []) (drop (n + 1) j) (tells.1 less)))

-- the same of one that stands at this place
pub cut_tells_race_at : {j : List Event} {n i : ℕ} {e f : Event} {t : ℕ → ℕ} → EventAt j n e → EventAt j i f → i < n
    → f.processor ≢ e.processor → Conflict f e → IsCutOf (take n j) e.processor t → Race j i n ↔ (t f.processor ≤ i)
cut_tells_race_at {j = j} {n = n} {i = i} {e = e} {f = f} {t = t} at to lt apart conflict cut = (there, here)
  where
    tells : HappensBefore j i n ↔ (i < t f.processor)
    tells = cut_tells_before_at at to lt apart (cut_of_access_quiet e.kind conflict.address conflict.second) cut

    there : Race j i n → t f.processor ≤ i
    there r = elim (cases_lt i (t f.processor)) [ inl less ↦ absurd (r.unordered (tells.1 less)) | inr le ↦ le ]

    here : t f.processor ≤ i → Race j i n
    here le = record {
      before = lt;
      first = f;
      second = e;
      first_at = to;
      second_at = at;
      apart = apart;
      conflict = conflict;
      unordered = λ h. (let less = tells.0 h in omega arith);
    }
