-- Counting the owners of records.
use Rattle.std.proofs.Common.{ℕ, zero, ◌≡◌, ◌≢◌, ◌+◌, ◌↔◌, ◌⊎◌, inl, inr, Bool, true, false, Some, List, [], ◌∷◌, ◌++◌, length, slice_get, slice_set, replicate, refl, sym, ap, subst, ◌∙◌, true≢false}
use Rattle.std.proofs.lemmas.Bool.{cases_eq}
use Rattle.std.proofs.lemmas.List.{length_push, length-set}
use Rattle.interval.specs.SentIntervals.{SentRecord}
use Rattle.journal.specs.PageImages.{HasPageImageCount}
use Rattle.base.specs.InOrderOnce.{Has}
use Rattle.base.proofs.JoinedLists.{joined_list_has-nil, joined_list_has-cons, joined_list_has-append}
use Rattle.base.proofs.OnceWithout.{once-append}
use Rattle.base.proofs.JoinedLists.{joined_list_in_order-nil, joined_list_in_order_single}
use Rattle.base.proofs.SliceSets.{slice_get-set_found, slice_get-set_other, slice_get-replicate_found}
use Rattle.cluster.specs.Copies.PageReplica.{IsPageReplicaOwner}

-- the marks are those of the records' owners
pub record AreOwnersMarked (missing : List SentRecord) (marks : List Bool) : Type 0 where
  pub long : length marks ≡ 64
  pub each : (q : ℕ) (b : Bool) → slice_get marks q ≡ Some b → (b ≡ true) ↔ IsPageReplicaOwner missing q

-- the owners of one record more
pub owner_more : (missing : List SentRecord) (x : SentRecord) (q : ℕ)
    → IsPageReplicaOwner (missing ++ x ∷ []) q ↔ (IsPageReplicaOwner missing q ⊎ (x.notice.owner ≡ q))
owner_more missing x q = (there, back)
  where
    there : IsPageReplicaOwner (missing ++ x ∷ []) q → IsPageReplicaOwner missing q ⊎ (x.notice.owner ≡ q)
    there h = elim ((joined_list_has-append missing (x ∷ []) h.0).0 h.1) [
      | inl a ↦ inl (h.0, a, h.2)
      | inr a ↦ (elim ((joined_list_has-cons x [] h.0).0 a) [
        | inl same ↦ inr (ap (λ (y : SentRecord). y.notice.owner) same ∙ h.2)
        | inr none ↦ absurd (joined_list_has-nil h.0 none)
      ])
    ]

    back : (IsPageReplicaOwner missing q ⊎ (x.notice.owner ≡ q)) → IsPageReplicaOwner (missing ++ x ∷ []) q
    back (inl h) = (h.0, (joined_list_has-append missing (x ∷ []) h.0).1 (inl h.1), h.2)
    back (inr h) = (x, (joined_list_has-append missing (x ∷ []) x).1 (inr (zero, refl)), h)

pub no_owners : HasPageImageCount (IsPageReplicaOwner []) 0
no_owners = record {
  list = [];
  each = λ q. ((λ h. absurd (joined_list_has-nil q h)), λ h. absurd (joined_list_has-nil h.0 h.1));
  once = joined_list_in_order-nil (λ (a b : ℕ). a ≢ b);
  length_is = refl;
}

pub owners_no_marks : AreOwnersMarked [] (replicate 64 false)
owners_no_marks = record {
  long = refl;
  each =
      λ q b at. (
        (λ h. absurd (true≢false (sym h ∙ sym (slice_get-replicate_found 64 false b q at)))),
        λ h. absurd (joined_list_has-nil h.0 h.1),
      );
}

-- an owner that is marked is counted
pub owner_again : (missing : List SentRecord) (x : SentRecord) (marks : List Bool) (n : ℕ)
    → slice_get marks x.notice.owner ≡ Some true → AreOwnersMarked missing marks → HasPageImageCount (IsPageReplicaOwner missing) n
    → AreOwnersMarked (missing ++ x ∷ []) marks × HasPageImageCount (IsPageReplicaOwner (missing ++ x ∷ [])) n
owner_again missing x marks n there marked counted = (
  record {
    long = marked.long;
    each = λ q b at. ((λ h. (same q).0 ((marked.each q b at).0 h)), λ h. (marked.each q b at).1 ((same q).1 h));
  },
  record {
    list = counted.list;
    each = λ q. ((λ h. (same q).0 ((counted.each q).0 h)), λ h. (counted.each q).1 ((same q).1 h));
    once = counted.once;
    length_is = counted.length_is;
  },
)
  where
    owned : IsPageReplicaOwner missing x.notice.owner
    owned = (marked.each x.notice.owner true there).0 refl

    same : (q : ℕ) → IsPageReplicaOwner missing q ↔ IsPageReplicaOwner (missing ++ x ∷ []) q
    same q = (
      (λ h. (owner_more missing x q).1 (inl h)),
      λ h. elim ((owner_more missing x q).0 h) [
        | inl a ↦ a
        | inr is ↦ subst (IsPageReplicaOwner missing) is owned
      ],
    )

-- and one that isn't is one more
pub owner_new : (missing : List SentRecord) (x : SentRecord) (marks : List Bool) (n : ℕ)
    → slice_get marks x.notice.owner ≡ Some false → AreOwnersMarked missing marks → HasPageImageCount (IsPageReplicaOwner missing) n
    → AreOwnersMarked (missing ++ x ∷ []) (slice_set marks x.notice.owner true)
    × HasPageImageCount (IsPageReplicaOwner (missing ++ x ∷ [])) (n + 1)
owner_new missing x marks n there marked counted = (
  record { long = length-set marks p true ∙ marked.long; each = each },
  record {
    list = counted.list ++ p ∷ [];
    each = λ q. ((λ h. listed q h), λ h. owned q h);
    once =
        once-append counted.list (p ∷ []) counted.once (joined_list_in_order_single (λ (a b : ℕ). a ≢ b) p) (λ y h in_new.
        elim ((joined_list_has-cons p [] y).0 in_new) [
          | inl is ↦ new (subst (IsPageReplicaOwner missing) (sym is) ((counted.each y).0 h))
          | inr none ↦ joined_list_has-nil y none
        ]);
    length_is = length_push counted.list p ∙ ap (λ k. k + 1) counted.length_is;
  },
)
  where
    p : ℕ
    p = x.notice.owner

    new : ¬ IsPageReplicaOwner missing p
    new h = absurd (true≢false (sym ((marked.each p false there).1 h)))

    listed : (q : ℕ) → Has (counted.list ++ p ∷ []) q → IsPageReplicaOwner (missing ++ x ∷ []) q
    listed q h = elim ((joined_list_has-append counted.list (p ∷ []) q).0 h) [
      | inl a ↦ (owner_more missing x q).1 (inl ((counted.each q).0 a))
      | inr a ↦ (elim ((joined_list_has-cons p [] q).0 a) [
        | inl is ↦ (owner_more missing x q).1 (inr is)
        | inr none ↦ absurd (joined_list_has-nil q none)
      ])
    ]

    owned : (q : ℕ) → IsPageReplicaOwner (missing ++ x ∷ []) q → Has (counted.list ++ p ∷ []) q
    owned q h = elim ((owner_more missing x q).0 h) [
      | inl a ↦ (joined_list_has-append counted.list (p ∷ []) q).1 (inl ((counted.each q).1 a))
      | inr is ↦ subst (Has (counted.list ++ p ∷ [])) is ((joined_list_has-append counted.list (p ∷ []) p).1 (inr (zero, refl)))
    ]

    each : (q : ℕ) (b : Bool) → slice_get (slice_set marks p true) q ≡ Some b
        → (b ≡ true) ↔ IsPageReplicaOwner (missing ++ x ∷ []) q
    each q b at = elim (cases_eq q p) [
      | inl same ↦
          (let P : ℕ → Type 0 = λ k. slice_get (slice_set marks p true) k ≡ Some b in
          let is : true ≡ b = slice_get-set_found marks p true b (subst P same at) in
          ((λ _. (owner_more missing x q).1 (inr (sym same))), λ _. sym is))
      | inr other ↦
          (let was = marked.each q b (sym (slice_get-set_other marks p q true other) ∙ at) in (
            (λ h. (owner_more missing x q).1 (inl (was.0 h))),
            λ h. elim ((owner_more missing x q).0 h) [
              | inl a ↦ was.1 a
              | inr is ↦ absurd (other (sym is))
            ],
          ))
    ]
