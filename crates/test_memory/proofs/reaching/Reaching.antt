-- How a row of what happens before a place grows, a source at a time.
use Rattle.std.proofs.Common.{◌≡◌, ◌↔◌, ◌⊎◌, ◌∙◌, ℕ, ◌+◌, ◌<◌, inl, inr, zero, suc, List, [], ◌∷◌, length, slice_index_or, Bool, true, false, IsTrue, ◌||◌, ◌==◌, refl, sym, subst, arith}
use Rattle.std.proofs.lemmas.Bool.{cases_lt, eq-eqb, eqb-true}
use Rattle.journal.specs.declared.event.Event.{Event}
use Rattle.journal.specs.HappensBeforeEdges.{Edge, HappensBefore}
use Rattle.journal.specs.Pasts.{UpTo}
use Rattle.journal.proofs.Order.IntoPast.{into_past_edge_on, into_past_last_step}

-- place i reaches this place by an edge from one of the first n places
pub record Reaches (j : List Event) (place n i : ℕ) : Type 0 where
  pub source : ℕ
  pub below : source < n
  pub up_to : UpTo j source i
  pub edge : Edge j source place

pub reaches_longer : (j : List Event) (place n i : ℕ) → Reaches j place n i → Reaches j place (n + 1) i
reaches_longer j place n i r =
    record { source = r.source; below = (let lt = r.below in omega arith); up_to = r.up_to; edge = r.edge }

-- one place on, with no edge from it
pub reaches_past : (j : List Event) (place n i : ℕ) → ¬ Edge j n place
    → Reaches j place (n + 1) i ↔ Reaches j place n i
reaches_past j place n i isnt = (
  λ r. elim (cases_lt r.source n) [
    | inl lt ↦ record { source = r.source; below = lt; up_to = r.up_to; edge = r.edge }
    | inr le ↦ (let is : r.source ≡ n = (let lt = r.below in omega arith) in
        absurd (isnt (subst (λ m. Edge j m place) is r.edge)))
  ],
  reaches_longer j place n i,
)

or_cases : (a b c : Bool) → (a || (b || c)) ≡ true → (a ≡ true) ⊎ ((b ≡ true) ⊎ (c ≡ true))
or_cases true b c h = inl h
or_cases false true c h = inr (inl h)
or_cases false false c h = inr (inr h)

or_first : (a b : Bool) → a ≡ true → (a || b) ≡ true
or_first true b h = refl
or_first false b h = absurd cc

or_second : (a b c : Bool) → b ≡ true → (a || (b || c)) ≡ true
or_second true b c h = refl
or_second false b c h = or_first b c h

or_third : (a b c : Bool) → c ≡ true → (a || (b || c)) ≡ true
or_third true b c h = refl
or_third false true c h = refl
or_third false false c h = h

-- one place on, with an edge from it
pub reaches_next : (j : List Event) (place n i : ℕ) (old there new : Bool) → Edge j n place
    → IsTrue old ↔ Reaches j place n i → IsTrue there ↔ HappensBefore j i n → new ≡ (old || (there || (i == n)))
    → IsTrue new ↔ Reaches j place (n + 1) i
reaches_next j place n i old there new edge before here is = (to, from)
  where
    to : new ≡ true → Reaches j place (n + 1) i
    to t = elim (or_cases old there (i == n) (sym is ∙ t)) [
      | inl o ↦ reaches_longer j place n i (before.0 o)
      | inr rest ↦ record {
        source = n;
        below = omega arith;
        up_to = elim rest [ inl h ↦ inr (here.0 h) | inr same ↦ inl (eqb-true i n same) ];
        edge = edge;
      }
    ]

    from : Reaches j place (n + 1) i → new ≡ true
    from r = elim (cases_lt r.source n) [
      | inl lt ↦ is
          ∙ or_first old (there || (i == n))
          (before.1 (record { source = r.source; below = lt; up_to = r.up_to; edge = r.edge }))
      | inr le ↦ (let same : r.source ≡ n = (let lt = r.below in omega arith) in elim r.up_to [
        | inl eq ↦ is ∙ or_third old there (i == n) (eq-eqb i n (eq ∙ same))
        | inr h ↦ is ∙ or_second old there (i == n) (here.1 (subst (λ m. HappensBefore j i m) same h))
      ])
    ]

-- after all places before it
pub reaches_all : (j : List Event) (place i : ℕ) → Reaches j place place i ↔ HappensBefore j i place
reaches_all j place i = (
  λ r. into_past_edge_on j i r.source place r.up_to r.edge,
  λ h. (let l = into_past_last_step j i place h in record { source = l.0; below = l.2.before; up_to = l.1; edge = l.2 }),
)

-- a mark stands within its row
pub marked_within : (row : List Bool) (i : ℕ) → slice_index_or row i false ≡ true → i < length row
marked_within [] i h = absurd cc
marked_within (b ∷ row) zero h = omega arith
marked_within (b ∷ row) (suc i) h = omega (arith, marked_within row i h)
