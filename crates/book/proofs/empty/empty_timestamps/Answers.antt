use Rattle.std.proofs.Common.{◌≡◌, ℕ, zero, suc, ◌∷◌, map, replicate, refl, ap, ◌∙◌}
use Rattle.std.specs.Option.{option_map}
use Rattle.journal.specs.ClosingKinds.{closing_awaits_kind}
use Rattle.book.proofs.empty.empty_timestamps.Goals as goal

module _ {A B : Type 0} (f : A → B) (a : A) where
  map_replicate : (n : ℕ) → map f (replicate n a) ≡ replicate n (f a)
  map_replicate zero = refl
  map_replicate (suc n) = ap (λ all. f a ∷ all) (map_replicate n)

pub returns-clause-awaits : goal.returns-clause-awaits
returns-clause-awaits c =
    ap (map (option_map closing_awaits_kind)) c.in_ok-empty_places.ensures ∙ map_replicate (option_map closing_awaits_kind) _ c.args.processors
