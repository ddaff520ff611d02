-- A record that is put among those that a copy lacks.
use Rattle.std.proofs.Common.{ℕ, zero, suc, ◌≡◌, ◌≢◌, ◌<◌, ◌+◌, ◌⊎◌, ◌↔◌, Some, List, [], ◌∷◌, ◌++◌, length, map, take, drop, slice_get, inl, inr, refl, sym, ap, subst, ◌∙◌, arith}
use Rattle.std.specs.Option.{option_map}
use Rattle.std.proofs.lemmas.List.{length-take, take-append-drop}
use Rattle.std.proofs.lemmas.Option.{slice_get-map}
use Rattle.journal.specs.MissingIntervals.{MissingInterval, MissingIntervalsInOrder}
use Rattle.base.specs.InOrderOnce.{Has, InOrder}
use Rattle.base.proofs.JoinedLists.{joined_list_has-nil, joined_list_has-cons, joined_list_has-append, joined_list_in_order-append, joined_list_in_order-cons, joined_list_in_order-map, joined_list_in_order_single, joined_list_in_order_tail}
use Rattle.base.proofs.SlicesAndCounts.{slice_get-append_right, slice_get-from_take, slice_get-take_within}
use Rattle.interval.specs.SentIntervals.{SentRecord}
use Rattle.book.specs.PageNews.{page_news_of_notice}
use Rattle.page.specs.Contents.{Contents}
use Rattle.page.specs.declared.page.Access.TheVariants.{Invalid}
use Rattle.cluster.specs.Copies.Backlogs.{IsPlaceInBacklog}
use Rattle.cluster.specs.Copies.PageReplica.{PageReplica}
use Rattle.cluster.specs.Copies.AfterNews.{IsAfterNews, CopyMayLackNews}

-- one interval was closed before the other
abbrev pub IsLearnedBefore : SentRecord → SentRecord → Type 0
IsLearnedBefore a b = a.place < b.place

-- closing order, of the records themselves
pub learned_in_order : (xs : List SentRecord) → MissingIntervalsInOrder (map page_news_of_notice xs) → InOrder IsLearnedBefore xs
learned_in_order xs order x y a b lt at bt = order x y (page_news_of_notice a) (page_news_of_notice b) lt (there x a at) (there y b bt)
  where
    there : (k : ℕ) (r : SentRecord) → slice_get xs k ≡ Some r → slice_get (map page_news_of_notice xs) k ≡ Some (page_news_of_notice r)
    there k r is = slice_get-map page_news_of_notice xs k ∙ ap (option_map page_news_of_notice) is

-- and back
pub learned_missing_in_order : (xs : List SentRecord) → InOrder IsLearnedBefore xs → MissingIntervalsInOrder (map page_news_of_notice xs)
learned_missing_in_order xs = joined_list_in_order-map (λ (a b : MissingInterval). a.place < b.place) page_news_of_notice xs

module _ (xs : List SentRecord) (x : SentRecord) (k : ℕ) (is : IsPlaceInBacklog xs x.place k) where
  -- the list with the record at its place
  abbrev learned_inserted : List SentRecord
  learned_inserted = take k xs ++ x ∷ drop k xs

  -- it has the record, and what it had
  pub learned_inserted_has : (y : SentRecord) → Has (take k xs ++ x ∷ drop k xs) y ↔ (Has xs y ⊎ Has (x ∷ []) y)
  learned_inserted_has y = (there, back)
    where
      old : Has xs y ↔ (Has (take k xs) y ⊎ Has (drop k xs) y)
      old =
          let P : List SentRecord → Type 0 = λ ys. Has ys y ↔ (Has (take k xs) y ⊎ Has (drop k xs) y) in
          subst P (take-append-drop k xs) (joined_list_has-append (take k xs) (drop k xs) y)

      there : Has learned_inserted y → Has xs y ⊎ Has (x ∷ []) y
      there has = elim ((joined_list_has-append (take k xs) (x ∷ drop k xs) y).0 has) [
        | inl front ↦ inl (old.1 (inl front))
        | inr rest ↦
            (elim ((joined_list_has-cons x (drop k xs) y).0 rest) [
              | inl same ↦ inr ((joined_list_has-cons x [] y).1 (inl same))
              | inr back ↦ inl (old.1 (inr back))
            ])
      ]

      back : Has xs y ⊎ Has (x ∷ []) y → Has learned_inserted y
      back (inl has) = elim (old.0 has) [
        | inl front ↦ (joined_list_has-append (take k xs) (x ∷ drop k xs) y).1 (inl front)
        | inr rest ↦ (joined_list_has-append (take k xs) (x ∷ drop k xs) y).1 (inr ((joined_list_has-cons x (drop k xs) y).1 (inr rest)))
      ]
      back (inr has) = elim ((joined_list_has-cons x [] y).0 has) [
        | inl same ↦ (joined_list_has-append (take k xs) (x ∷ drop k xs) y).1 (inr ((joined_list_has-cons x (drop k xs) y).1 (inl same)))
        | inr none ↦ absurd (joined_list_has-nil y none)
      ]

  -- the rest begins at k
  learned_at_dropped : (j : ℕ) → slice_get (drop k xs) j ≡ slice_get xs (k + j)
  learned_at_dropped j =
      let within = is.within in
      let long = length-take k xs in
      let e : length (take k xs) ≡ k = omega arith in
      let P : ℕ → Type 0 = λ n. slice_get (take k xs ++ drop k xs) (n + j) ≡ slice_get (drop k xs) j in
      let here = subst P e (slice_get-append_right (take k xs) (drop k xs) j) in
      let Q : List SentRecord → Type 0 = λ ys. slice_get ys (k + j) ≡ slice_get (drop k xs) j in
      sym (subst Q (take-append-drop k xs) here)

  -- and it is in closing order, where its interval was not in the list
  pub learned_inserted_order : MissingIntervalsInOrder (map page_news_of_notice xs) → ((y : SentRecord) → Has xs y → y.place ≢ x.place)
      → MissingIntervalsInOrder (map page_news_of_notice (take k xs ++ x ∷ drop k xs))
  learned_inserted_order closed apart =
      learned_missing_in_order learned_inserted (joined_list_in_order-append IsLearnedBefore (take k xs) (x ∷ drop k xs) front rest across)
    where
      order : InOrder IsLearnedBefore xs
      order = learned_in_order xs closed

      behind : (b : SentRecord) → Has (drop k xs) b → x.place < b.place
      behind b has = is.behind (k + has.0) b (omega arith) (sym (learned_at_dropped has.0) ∙ has.1)

      front : InOrder IsLearnedBefore (take k xs)
      front i j a b lt at bt = order i j a b lt (slice_get-from_take xs k i a at) (slice_get-from_take xs k j b bt)

      rest : InOrder IsLearnedBefore (x ∷ drop k xs)
      rest = joined_list_in_order-cons IsLearnedBefore x (drop k xs) behind (λ i j a b lt at bt.
          order (k + i) (k + j) a b (omega arith) (sym (learned_at_dropped i) ∙ at) (sym (learned_at_dropped j) ∙ bt))

      across : (a b : SentRecord) → Has (take k xs) a → Has (x ∷ drop k xs) b → a.place < b.place
      across a b in_front has = elim ((joined_list_has-cons x (drop k xs) b).0 has) [
        | inl same ↦ subst (λ (r : SentRecord). a.place < r.place) same sooner
        | inr late ↦ (let first = sooner in let c = behind b late in omega arith)
      ]
        where
          here : slice_get xs in_front.0 ≡ Some a
          here = slice_get-from_take xs k in_front.0 a in_front.1

          sooner : a.place < x.place
          sooner =
              let early = slice_get-take_within xs k in_front.0 a in_front.1 in
              let le = is.before in_front.0 a early here in
              let ne = apart a (in_front.0, here) in
              omega arith

-- a copy that learns of one record
pub learned_news : (c d : PageReplica) (x : SentRecord) (k : ℕ) → CopyMayLackNews c (x ∷ []) → IsPlaceInBacklog c.missing x.place k
    → d.page ≡ record c.page { access = Invalid }
    → d.missing ≡ take k c.missing ++ x ∷ drop k c.missing
    → IsAfterNews c (x ∷ []) d
learned_news c d x k may is page missing = record {
  none = λ none. absurd (cc);
  page = λ _. page;
  lacks = rw missing (learned_inserted_has c.missing x k is);
  order = rw missing (learned_inserted_order c.missing x k is may.order (λ y has. may.apart y x has (zero, refl)));
}

-- what a copy learned, and then one record more
pub learned_more : (c d e : PageReplica) (news : List SentRecord) (x : SentRecord) → IsAfterNews c news d
    → IsAfterNews d (x ∷ []) e
    → IsAfterNews c (news ++ x ∷ []) e
learned_more c d e news x before now = record {
  none = λ none. absurd (some news none);
  page = λ _. now.page (λ none. cc) ∙ closed news before;
  lacks = λ y. (there y, back y);
  order = now.order;
}
  where
    some : (ys : List SentRecord) → ys ++ x ∷ [] ≢ []
    some [] none = cc
    some (y ∷ ys) none = cc

    closed : (sent : List SentRecord) → IsAfterNews c sent d
        → ◌≡◌ {A = Contents} (record d.page { access = Invalid }) (record c.page { access = Invalid })
    closed [] is = ap (λ (p : Contents). record p { access = Invalid }) (is.none refl).page
    closed (y ∷ ys) is = ap (λ (p : Contents). record p { access = Invalid }) (is.page (λ none. cc))

    there : (y : SentRecord) → Has e.missing y → Has c.missing y ⊎ Has (news ++ x ∷ []) y
    there y has = elim ((now.lacks y).0 has) [
      | inr last ↦ inr ((joined_list_has-append news (x ∷ []) y).1 (inr last))
      | inl old ↦
          (elim ((before.lacks y).0 old) [
            | inl first ↦ inl first
            | inr sooner ↦ inr ((joined_list_has-append news (x ∷ []) y).1 (inl sooner))
          ])
    ]

    back : (y : SentRecord) → Has c.missing y ⊎ Has (news ++ x ∷ []) y → Has e.missing y
    back y (inl first) = (now.lacks y).1 (inl ((before.lacks y).1 (inl first)))
    back y (inr has) = elim ((joined_list_has-append news (x ∷ []) y).0 has) [
      | inl sooner ↦ (now.lacks y).1 (inl ((before.lacks y).1 (inr sooner)))
      | inr last ↦ (now.lacks y).1 (inr last)
    ]

-- a copy that learned of the first of these records may learn of the rest
pub may_learn_rest : (c d : PageReplica) (x : SentRecord) (xs : List SentRecord) → CopyMayLackNews c (x ∷ xs) → IsAfterNews c (x ∷ []) d
    → d.room + 1 ≡ c.room
    → CopyMayLackNews d xs
may_learn_rest c d x xs may is room = record {
  room = let all = may.room in omega arith;
  clean = λ _. rw (is.page (λ none. cc)) (may.clean (λ none. cc));
  order = is.order;
  news_order = learned_missing_in_order xs (joined_list_in_order_tail IsLearnedBefore x xs order);
  apart = λ y z has new. elim ((is.lacks y).0 has) [
    | inl old ↦ may.apart y z old ((joined_list_has-cons x xs z).1 (inr new))
    | inr first ↦
        (elim ((joined_list_has-cons x [] y).0 first) [
          | inl same ↦
              (let sooner : x.place < z.place = order 0 (suc new.0) x z (omega arith) refl new.1 in
              let P : SentRecord → Type 0 = λ r. r.place < z.place in
              let lt = subst P same sooner in
              λ e. absurd (omega arith))
          | inr none ↦ absurd (joined_list_has-nil y none)
        ])
  ];
}
  where
    order : InOrder IsLearnedBefore (x ∷ xs)
    order = learned_in_order (x ∷ xs) may.news_order

-- a record may be learned where it and others may
pub may_learn_first : (c : PageReplica) (x : SentRecord) (xs : List SentRecord) → CopyMayLackNews c (x ∷ xs) → CopyMayLackNews c (x ∷ [])
may_learn_first c x xs may = record {
  room = let all = may.room in omega arith;
  clean = λ _. may.clean (λ none. cc);
  order = may.order;
  news_order = joined_list_in_order_single (λ (a b : MissingInterval). a.place < b.place) (page_news_of_notice x);
  apart = λ y z has new. elim ((joined_list_has-cons x [] z).0 new) [
    | inl same ↦ may.apart y z has (zero, ap (λ (r : SentRecord). Some r) same)
    | inr none ↦ absurd (joined_list_has-nil z none)
  ];
}
