-- Records that copies learn one after another.
use Rattle.std.proofs.Common.{ℕ, zero, ◌≡◌, ◌<◌, ◌+◌, Bool, true, false, Some, List, [], ◌∷◌, ◌++◌, append-nil, filter, length, slice_get, slice_set, inl, inr, refl, sym, ap, subst, subst₂, ◌∙◌, arith}
use Rattle.std.proofs.lemmas.Bool.{cases_eq, cond-true, cond-false, eq-eqb, ne_eqb}
use Rattle.std.proofs.lemmas.List.{length-set}
use Rattle.std.proofs.lemmas.List.Elements.{filter-append}
use Rattle.std.proofs.lemmas.Option.{same_Some}
use Rattle.base.proofs.JoinedLists.{joined_list_has-nil, joined_list_has-cons}
use Rattle.base.proofs.SliceSets.{slice_get-set_found, slice_get-set_other}
use Rattle.interval.specs.SentIntervals.{SentRecord}
use Rattle.interval.specs.KeptClosings.{is_kept_closing_of_page}
use Rattle.cluster.specs.Copies.PageReplica.{PageReplica}
use Rattle.cluster.specs.Copies.AfterNews.{IsAfterNews, AreAfterNews, CopyMayLackNews, CopiesMayLackNews}
use Rattle.cluster.proofs.copies.Learned.{learned_more, may_learn_rest, may_learn_first}

learned_all_filter_yes : {A : Type 0} (p : A → Bool) (x : A) (xs : List A) → p x ≡ true → filter p (x ∷ xs) ≡ x ∷ filter p xs
learned_all_filter_yes p x xs = cond-true (p x) (x ∷ filter p xs) (filter p xs)

learned_all_filter_no : {A : Type 0} (p : A → Bool) (x : A) (xs : List A) → p x ≡ false → filter p (x ∷ xs) ≡ filter p xs
learned_all_filter_no p x xs = cond-false (p x) (x ∷ filter p xs) (filter p xs)

module _ (copies : List PageReplica) (x : SentRecord) (xs : List SentRecord) (may : CopiesMayLackNews copies (x ∷ xs)) where
  -- the record's page has a copy
  pub learned_all_page_within : x.notice.page < length copies
  learned_all_page_within = may.in_range x (zero, refl)

  module _ (c : PageReplica) (at : slice_get copies x.notice.page ≡ Some c) where
    learned_all_mine : CopyMayLackNews c (x ∷ filter (is_kept_closing_of_page x.notice.page) xs)
    learned_all_mine =
        let P : List SentRecord → Type 0 = λ ys. CopyMayLackNews c ys in
        let here = eq-eqb x.notice.page x.notice.page refl in
        subst P (learned_all_filter_yes (is_kept_closing_of_page x.notice.page) x xs here) (may.each x.notice.page c at)

    -- and that may learn of it
    pub may_learn_one_of_all : CopyMayLackNews c (x ∷ [])
    may_learn_one_of_all = may_learn_first c x (filter (is_kept_closing_of_page x.notice.page) xs) learned_all_mine

    module _ (d : PageReplica) (is : IsAfterNews c (x ∷ []) d) (room : d.room + 1 ≡ c.room) where
      -- then the copies may learn of the rest
      pub may_learn_all_others : CopiesMayLackNews (slice_set copies x.notice.page d) xs
      may_learn_all_others = record {
        in_range = λ y has.
            let long = length-set copies x.notice.page d in
            let inside = may.in_range y ((joined_list_has-cons x xs y).1 (inr has)) in
            omega arith;
        each = each;
      }
        where
          each : (n : ℕ) (e : PageReplica) → slice_get (slice_set copies x.notice.page d) n ≡ Some e
              → CopyMayLackNews e (filter (is_kept_closing_of_page n) xs)
          each n e there = elim (cases_eq n x.notice.page) [
            | inl same ↦
                (let P : ℕ → Type 0 = λ k. slice_get (slice_set copies x.notice.page d) k ≡ Some e in
                let here : d ≡ e = slice_get-set_found copies x.notice.page d e (subst P same there) in
                let Q : PageReplica → ℕ → Type 0 = λ f k. CopyMayLackNews f (filter (is_kept_closing_of_page k) xs) in
                subst₂ Q here (sym same) (may_learn_rest c d x (filter (is_kept_closing_of_page x.notice.page) xs) learned_all_mine is room))
            | inr other ↦
                (let before = sym (slice_get-set_other copies x.notice.page n d other) ∙ there in
                let P : List SentRecord → Type 0 = λ ys. CopyMayLackNews e ys in
                let no = ne_eqb x.notice.page n (λ same. other (sym same)) in
                subst P (learned_all_filter_no (is_kept_closing_of_page n) x xs no) (may.each n e before))
          ]

      -- and after what they learned before they have learned of it too
      pub learned_all_news_more : (old : List PageReplica) (news : List SentRecord) → AreAfterNews old news copies
          → AreAfterNews old (news ++ x ∷ []) (slice_set copies x.notice.page d)
      learned_all_news_more old news after = record { all = length-set copies x.notice.page d ∙ after.all; each = each }
        where
          each : (n : ℕ) (o e : PageReplica) → slice_get old n ≡ Some o
              → slice_get (slice_set copies x.notice.page d) n ≡ Some e
              → IsAfterNews o (filter (is_kept_closing_of_page n) (news ++ x ∷ [])) e
          each n o e was there = elim (cases_eq n x.notice.page) [
            | inl same ↦
                (let P : ℕ → Type 0 = λ k. slice_get (slice_set copies x.notice.page d) k ≡ Some e in
                let here : d ≡ e = slice_get-set_found copies x.notice.page d e (subst P same there) in
                let Q : ℕ → Type 0 = λ k. slice_get old k ≡ Some o in
                let before = after.each x.notice.page o c (subst Q same was) at in
                let yes = learned_all_filter_yes (is_kept_closing_of_page x.notice.page) x [] (eq-eqb x.notice.page x.notice.page refl) in
                let more = filter-append (is_kept_closing_of_page x.notice.page) news (x ∷ []) in
                let sofar = filter (is_kept_closing_of_page x.notice.page) news in
                let R : List SentRecord → Type 0 = λ ys. IsAfterNews o ys d in
                let now : IsAfterNews o (filter (is_kept_closing_of_page x.notice.page) (news ++ x ∷ [])) d =
                let all = more ∙ ap (λ (ys : List SentRecord). sofar ++ ys) yes in
                subst R (sym all) (learned_more o c d sofar x before is)
                in
                let S : PageReplica → ℕ → Type 0 = λ f k. IsAfterNews o (filter (is_kept_closing_of_page k) (news ++ x ∷ [])) f in
                subst₂ S here (sym same) now)
            | inr other ↦
                (let before = sym (slice_get-set_other copies x.notice.page n d other) ∙ there in
                let no = learned_all_filter_no (is_kept_closing_of_page n) x [] (ne_eqb x.notice.page n (λ same. other (sym same))) in
                let more = filter-append (is_kept_closing_of_page n) news (x ∷ []) in
                let sofar = filter (is_kept_closing_of_page n) news in
                let same = more ∙ ap (λ (ys : List SentRecord). sofar ++ ys) no ∙ append-nil sofar in
                let R : List SentRecord → Type 0 = λ ys. IsAfterNews o ys e in
                subst R (sym same) (after.each n o e was before))
          ]

-- before the first record
pub learned_all_news_start : (copies : List PageReplica) (sent : List SentRecord) → CopiesMayLackNews copies sent → AreAfterNews copies [] copies
learned_all_news_start copies sent may = record { all = refl; each = each }
  where
    each : (n : ℕ) (c d : PageReplica) → slice_get copies n ≡ Some c → slice_get copies n ≡ Some d
        → IsAfterNews c [] d
    each n c d was now =
        let P : PageReplica → Type 0 = λ e. IsAfterNews c [] e in
        subst P (same_Some c d (sym was ∙ now)) (record {
          none = λ _. record { page = refl; missing = refl };
          page = λ some. absurd (some refl);
          lacks = λ x. (inl, λ h. elim h [ inl old ↦ old | inr none ↦ absurd (joined_list_has-nil x none) ]);
          order = (may.each n c was).order;
        })
