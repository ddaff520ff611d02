use Rattle.std.proofs.Common.{ℕ, ◌≡◌, ◌+◌, ◌-◌, ◌%◌, List, sym, ap, ◌∙◌, arith}
use Rattle.std.specs.List.{swap}
use Rattle.std.proofs.lemmas.List.Sorted.{IsPermutation-trans}
use Rattle.rand_pcg.specs.Lcg.{Lcg}
use Rattle.rand_pcg.specs.Pcg.{pcg32}
use Rattle.lrc_run.proofs.OrderExchanges.{round_order_exchanged-step, round_order_exchanged-none}
use Rattle.lrc_run.proofs.orders.order.Goals as goal

pub loop-i-preserved : goal.loop-i-preserved
loop-i-preserved c =
    let i = c.loop-i.i - 1 in
    let g = c.loop-i.rng in
    let xs = c.loop-i.list in
    let word = ap (λ (x : ℕ × Lcg). x.0) c.next_word-word.ensures in
    let state = ap (λ (x : ℕ × Lcg). x.1) c.next_word-word.ensures in
    let places : c.swap.new.self ≡ swap xs i ((pcg32 g).0 % (i + 1)) =
    c.swap.ensures.after ∙ ap (λ w. swap xs i (w % (i + 1))) word in
    record {
      drawn = rw (state, places) (sym (round_order_exchanged-step i g xs (omega (arith, c.loop-i-test.true)))
          ∙ c.loop-i.invariant.drawn);
      same = IsPermutation-trans c.args.list.now xs c.swap.new.self c.loop-i.invariant.same c.swap.ensures.permutation;
    }

pub returns-clause-list : goal.returns-clause-list
returns-clause-list c =
    ap (λ (x : List ℕ × Lcg). x.0) (sym (round_order_exchanged-none (c.loop-i.i - 1) c.loop-i.rng c.loop-i.list
    (omega (arith, c.loop-i-test.false))) ∙ c.loop-i.invariant.drawn)

pub returns-clause-state : goal.returns-clause-state
returns-clause-state c =
    ap (λ (x : List ℕ × Lcg). x.1) (sym (round_order_exchanged-none (c.loop-i.i - 1) c.loop-i.rng c.loop-i.list
    (omega (arith, c.loop-i-test.false))) ∙ c.loop-i.invariant.drawn)
