-- A record does to a page what all the writes that it comes from do.
use Rattle.std.proofs.Common.{ℕ, ◌≡◌, ◌<◌, ◌↔◌, List, [], ◌∷◌, length, Option, Some, arith, refl, sym, ap, ◌∙◌}
use Rattle.std.proofs.lemmas.Option.{same_Some}
use Rattle.std.specs.List.{concat}
use Rattle.base.specs.InOrderOnce.{Has}
use Rattle.base.specs.LastWrite.{written, LastWrite}
use Rattle.base.specs.AppliedRecords.{record_applied, records_applied, IsRecordOf, AreRecordsOf, none, more}
use Rattle.base.proofs.LastWritten.{length-written, last_written_words_same, written-append, last_written_same}

-- each word of a record is its own last write
pub record_writes_last : {A : Type 0} (f : A → Option (ℕ × ℕ)) (xs : List A) (words : List (ℕ × ℕ)) (o v : ℕ)
    → IsRecordOf f xs words → LastWrite (λ (x : ℕ × ℕ). Some x) words o v ↔ LastWrite f xs o v
record_writes_last f xs words o v r = (there, back)
  where
    there : LastWrite (λ (x : ℕ × ℕ). Some x) words o v → LastWrite f xs o v
    there l = (r.each o v).0 (l.place, l.at ∙ l.writes)

    back : LastWrite f xs o v → LastWrite (λ (x : ℕ × ℕ). Some x) words o v
    back l =
        let h : Has words (o, v) = (r.each o v).1 l in
        record {
          place = h.0;
          item = (o, v);
          at = h.1;
          writes = refl;
          last = λ k y u less at e.
              let rises : o < y.0 = r.rising h.0 k (o, v) y less h.1 at in
              let same : y.0 ≡ o = ap (λ (z : ℕ × ℕ). z.0) (same_Some y (o, u) e) in
              absurd (omega arith);
        }

-- last values do what all writes do
pub record_writes_same : {A : Type 0} (f : A → Option (ℕ × ℕ)) (page : List ℕ) (xs : List A) (words : List (ℕ × ℕ))
    → IsRecordOf f xs words → record_applied page words ≡ written f page xs
record_writes_same f page xs words r =
    last_written_words_same (λ (x : ℕ × ℕ). Some x) f page words xs (λ o v. record_writes_last f xs words o v r)

-- records in turn do what all writes of their groups do
pub record_writes_all_same : (f : ℕ → Option (ℕ × ℕ)) (page : List ℕ) {gs : List (List ℕ)} {rs : List (List (ℕ × ℕ))}
    → AreRecordsOf f gs rs → records_applied page rs ≡ written f page (concat gs)
record_writes_all_same f page none = refl
record_writes_all_same f page (more {g = g} {r = r} {gs = gs} {rs = rs} here rest) =
    record_writes_all_same f (record_applied page r) rest
    ∙ ap (λ (p : List ℕ). written f p (concat gs)) (record_writes_same f page g r here)
    ∙ sym (written-append f page g (concat gs))

-- a record of one list is a record of each list that does the same to all words
pub record_writes_moved : {A B : Type 0} (f : A → Option (ℕ × ℕ)) (g : B → Option (ℕ × ℕ)) (xs : List A) (ys : List B)
    (words : List (ℕ × ℕ))
    → ((page : List ℕ) → written f page xs ≡ written g page ys) → IsRecordOf f xs words → IsRecordOf g ys words
record_writes_moved f g xs ys words same r = record {
  each =
      λ o v. (
        λ h. last_written_same f g xs ys o v same ((r.each o v).0 h),
        λ l. (r.each o v).1
            (last_written_same g f ys xs o v (λ page. sym (same page)) l),
      );
  rising = r.rising;
}

-- records keep the number of words
pub length-records_applied : (page : List ℕ) (rs : List (List (ℕ × ℕ)))
    → length (records_applied page rs) ≡ length page
length-records_applied page [] = refl
length-records_applied page (r ∷ rs) =
    length-records_applied (record_applied page r) rs ∙ length-written (λ (x : ℕ × ℕ). Some x) page r
