-- The exchanges of a drawn order, one by one.
use Rattle.std.proofs.Common.{ℕ, zero, suc, ◌≡◌, ◌+◌, ◌-◌, ◌%◌, ◌<◌, List, [], ◌∷◌, ◌++◌, length, sym, ap, subst, ◌∙◌, arith}
use Rattle.std.specs.List.{range_with_len, swap}
use Rattle.std.proofs.lemmas.List.FromFn.{get_or-range_with_len, length-range_with_len}
use Rattle.rand_pcg.specs.Lcg.{Lcg}
use Rattle.rand_pcg.specs.Pcg.{pcg32}
use Rattle.conformance.specs.RoundOrders.{round_order_exchanged}
use Rattle.lrc_run.specs.DrawnOrders.{AreDrawnOrderProcessors}

-- one exchange
pub round_order_exchanged-step : (i : ℕ) (g : Lcg) (xs : List ℕ) → 0 < i
    → round_order_exchanged i g xs ≡ round_order_exchanged (i - 1) (pcg32 g).1 (swap xs i ((pcg32 g).0 % (i + 1)))
unfolding round_order_exchanged
round_order_exchanged-step zero g xs h = absurd (omega arith)
round_order_exchanged-step (suc i) g xs h =
    let less : suc i - 1 ≡ i = omega arith in
    ap (λ k. round_order_exchanged k (pcg32 g).1 (swap xs (suc i) ((pcg32 g).0 % (suc i + 1)))) (sym less)

-- and none is left
pub round_order_exchanged-none : (i : ℕ) (g : Lcg) (xs : List ℕ) → i ≡ 0 → round_order_exchanged i g xs ≡ (xs, g)
unfolding round_order_exchanged
round_order_exchanged-none i g xs e = ap (λ k. round_order_exchanged k g xs) e

-- rising numbers are below their count
pub order_exchange_rising_below : (n : ℕ) (xs : List ℕ) → xs ≡ range_with_len 0 n → AreDrawnOrderProcessors n xs × (length xs ≡ n)
order_exchange_rising_below n xs is =
    (subst (AreDrawnOrderProcessors n) (sym is) (each n), ap length is ∙ length-range_with_len 0 n)
  where
    each : (n : ℕ) → AreDrawnOrderProcessors n (range_with_len 0 n)
    each n k d less =
        let within : k < n = omega (arith, less, length-range_with_len 0 n) in
        omega (arith, within, get_or-range_with_len 0 n k d within)

-- one more of them
pub order_exchange_rising_more : (a n : ℕ) → range_with_len a (suc n) ≡ range_with_len a n ++ (a + n) ∷ []
order_exchange_rising_more a zero = let same : a ≡ a + 0 = omega arith in ap (λ x. x ∷ []) same
order_exchange_rising_more a (suc n) =
    let same : a + 1 + n ≡ a + suc n = omega arith in
    ap (λ xs. a ∷ xs) (order_exchange_rising_more (a + 1) n ∙ ap (λ x. range_with_len (a + 1) n ++ x ∷ []) same)
