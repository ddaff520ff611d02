-- What is cloned is the same.
use Rattle.std.proofs.Common.{ℕ, ◌≡◌, List, [], ◌∷◌, Result, Ok, Err, refl, ap₂}
use Rattle.std.specs.Prelude.{IfOk, MatchResult}
use Rattle.std.specs.Global.{Vec}
use Rattle.std.specs.List.{AllZip}
use Rattle.explore.specs.Machines.{machine_rows}

-- what is so of a value where the call succeeds
pub clone_match_ok : {A E : Type 0} (r : Result A E) (P Q : A → Type 0) (F : E → Type 0) → ((x : A) → P x → Q x)
    → MatchResult r P F → IfOk r Q
clone_match_ok (Ok x) P Q F f h = f x h
clone_match_ok (Err e) P Q F f h = tt

-- what is weaker is so, too
pub clone_if_ok : {A E : Type 0} (r : Result A E) (P Q : A → Type 0) → ((x : A) → P x → Q x) → IfOk r P → IfOk r Q
clone_if_ok (Ok x) P Q f h = f x h
clone_if_ok (Err e) P Q f h = tt

-- rows of clones
pub cloned_items : (R : Vec ℕ → Vec ℕ → Type 0) → ((v w : Vec ℕ) → R v w → w.items ≡ v.items) → (vs ws : List (Vec ℕ))
    → AllZip R vs ws → machine_rows ws ≡ machine_rows vs
cloned_items R same [] [] h = refl
cloned_items R same [] (w ∷ ws) h = absurd h
cloned_items R same (v ∷ vs) [] h = absurd h
cloned_items R same (v ∷ vs) (w ∷ ws) h = ap₂ (λ x xs. x ∷ xs) (same v w h.0) (cloned_items R same vs ws h.1)
