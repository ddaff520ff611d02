use Rattle.std.proofs.Common.{◌≡◌, ℕ, ◌≤◌, List, length, max, nat_cmp, slice_index, take, subst, sym, ap, ◌∙◌, arith, length-take}
use Rattle.std.proofs.lemmas.List.{with_items_is}
use Rattle.std.specs.BTreeMap.{get}
use Rattle.std.specs.Vec.{with_items}
use Rattle.judge.specs.NumberedCuts.{numbered_cut_kept}
use Rattle.judge.proofs.numbered_cuts.HighCuts.{high_cut_joined, high_cut_raised}
use Rattle.judge.proofs.numbered_cuts.NumberedCuts.join_high.Goals as goal

pub returns-clause-joined : goal.returns-clause-joined
returns-clause-joined c =
    let s = c.args.self.now in
    let cut = c.args.cut.now in
    let v = c.in_ok-joined.joined in
    let xs = c.deref_mut.result.now in
    let ys = c.join_cut.new.entries in
    let was : List ℕ = numbered_cut_kept (get nat_cmp s.high c.args.number) in
    let kept : List ℕ = take s.low.width was in
    let first : xs ≡ cut = c.deref_mut.ensures.value ∙ c.in_ok-joined.ensures.items in
    let wide : length xs ≡ s.low.width = ap length first ∙ c.requires.cut in
    let long : length ys ≡ v.len = c.join_cut.ensures.long ∙ (ap length c.deref_mut.ensures.value ∙ sym v.ok.0) in
    let items = with_items_is v ys long in
    let few = length-take s.low.width was in
    let short = subst (λ (zs : List ℕ). length zs ≤ length xs) (sym c.high_cut.ensures) (omega (arith, few, wide)) in
    let raised = high_cut_raised xs ys c.high_cut.result.now short c.join_cut.ensures.joined c.join_cut.ensures.behind in
    let one = subst (λ zs. (q : ℕ) → slice_index ys q ≡ max (slice_index zs q) (slice_index xs q)) c.high_cut.ensures raised in
    let two = subst (λ zs. (q : ℕ) → slice_index ys q ≡ max (slice_index kept q) (slice_index zs q)) first one in
    let all = subst (λ zs. (q : ℕ) → slice_index zs q ≡ max (slice_index kept q) (slice_index cut q)) (sym items) two in
    let full : length (with_items v ys).items ≡ s.low.width = ap length items ∙ (c.join_cut.ensures.long ∙ wide) in
    high_cut_joined s c.insert.new.self c.args.number cut (with_items v ys) c.requires.number full all c.in_ok-insert.ensures.updates
