-- Messages that are sent to all.
use Rattle.std.proofs.Common.{◌≡◌, ℕ, zero, suc, ◌<◌, List, [], ◌∷◌, ◌++◌, length, map, Option, Some, None, replicate, slice_get, slice_set, refl, ap, ◌∙◌, arith}
use Rattle.std.proofs.lemmas.Option.{same_Some}
use Rattle.std.proofs.lemmas.List.{append_assoc, length_push}
use Rattle.transit.specs.Letters.{Letter}

-- the last messages are sent, and the others are left
pub record IsPosting (all left : List Letter) (transit : List (Option Letter)) : Type 0 where
  pub sent : List Letter
  pub parts : all ≡ left ++ sent
  pub posted : transit ≡ replicate (length left) None ++ map (λ (m : Letter). Some m) sent

-- a list of one item over and over
pub posting_all_same : {A : Type 0} (xs : List A) (a : A) → ((i : ℕ) → i < length xs → slice_get xs i ≡ Some a)
    → xs ≡ replicate (length xs) a
posting_all_same [] a same = refl
posting_all_same (x ∷ xs) a same =
    ap (λ y. y ∷ xs) (same_Some x a (same 0 (omega arith)))
    ∙ ap (λ ys. a ∷ ys) (posting_all_same xs a (λ i lt. same (suc i) (omega arith)))

-- the last of the empty places is filled
posting_fills : {A : Type 0} (n : ℕ) (ys : List (Option A)) (v : Option A)
    → slice_set (replicate (suc n) None ++ ys) n v ≡ replicate n None ++ v ∷ ys
posting_fills zero ys v = refl
posting_fills (suc n) ys v = ap (λ zs. None ∷ zs) (posting_fills n ys v)

-- the last message that was left, m, is sent to its place n: old and new are the mail before that and after it
pub record PostsOne (all rest : List Letter) (new : List (Option Letter)) : Type 0 where
  pub left : List Letter
  pub old : List (Option Letter)
  pub m : Letter
  pub n : ℕ
  pub is : IsPosting all left old
  pub split : left ≡ rest ++ m ∷ []
  pub at : n ≡ length rest
  pub set : new ≡ slice_set old n (Some m)

-- one more message is sent
pub posting_step : {all rest : List Letter} {new : List (Option Letter)} → PostsOne all rest new
    → IsPosting all rest new
posting_step {all} {rest} {new} step = record {
  sent = step.m ∷ step.is.sent;
  parts = step.is.parts ∙ ap (λ xs. xs ++ step.is.sent) step.split ∙ append_assoc rest (step.m ∷ []) step.is.sent;
  posted =
      let more = ap (λ (xs : List Letter). length xs) step.split ∙ length_push rest step.m in
      let long : length step.left ≡ suc (length rest) = omega arith in
      step.set ∙ ap (λ k. slice_set step.old k (Some step.m)) step.at
      ∙ ap (λ ms. slice_set ms (length rest) (Some step.m))
      (step.is.posted ∙ ap (λ k. replicate k None ++ map (λ (x : Letter). Some x) step.is.sent) long)
      ∙ posting_fills (length rest) (map (λ (x : Letter). Some x) step.is.sent) (Some step.m);
}
