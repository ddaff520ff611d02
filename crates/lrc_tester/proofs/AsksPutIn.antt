-- No ask is put into a history that follows its script as it is written: no processor of the script calls anything else.
use Rattle.std.proofs.Common.{ℕ, ◌≡◌, ◌≢◌, ◌⊎◌, inl, inr, cond, Option, Bool, true, false, List, [], ◌∷◌, ◌++◌, Some, None, fold, map, refl, sym, ap, subst, ◌∙◌, append-nil, append_assoc}
use Rattle.std.specs.Prelude.{◌==◌}
use Rattle.std.proofs.lemmas.Bool.{cases_eq, cond-true, eq-eqb}
use Rattle.std.proofs.lemmas.List.Sums.{fold-append}
use Rattle.journal.specs.declared.event.Event.{Event}
use Rattle.journal.specs.declared.event.Kind.{Kind}
use Rattle.journal.specs.declared.event.Kind.TheVariants as kind
use Rattle.journal.specs.DidEvent.{event}
use Rattle.lrc_script.specs.declared.script.Instruction.{Instruction}
use Rattle.lrc_script.specs.declared.script.Instruction.TheVariants.{Load, Store, Add, Acquire, Release, Barrier, Set, Await, Cut}
use Rattle.conformance.specs.Follows.{calls_of, is_fetch, load_of, FollowsSection}
use Rattle.conformance.specs.InstructionEvents.{AreEventsOfInstruction, AreEventsOfInstructions}
use Rattle.conformance.proofs.FollowedCalls.{followed_calls-append, followed_calls-others, followed_calls-own, followed_calls_first, followed_calls_first-fetch, followed_calls_first-other, followed_calls_one-fetch}
use Rattle.explore.specs.Prefixes.ScriptCalls.{script_calls_shown_by}
use Rattle.lrc_tester.specs.Following.{WrittenAsksLaw, last_call, left_out_ask, with_ask}

-- one call more, and right before it the ask that was left out
abbrev asked_call : List Kind → Kind → List Kind
asked_call ks k = (ks ++ left_out_ask (last_call ks) k) ++ k ∷ []

-- nothing was left out before it
put_in_nothing : (ks : List Kind) (k : Kind) → left_out_ask (last_call ks) k ≡ [] → asked_call ks k ≡ ks ++ k ∷ []
put_in_nothing ks k none = ap (λ asks. (ks ++ asks) ++ k ∷ []) none ∙ ap (λ xs. xs ++ k ∷ []) (append-nil ks)

-- two calls, one after the other
put_in_pair : (ks : List Kind) (k l : Kind) → left_out_ask (last_call ks) k ≡ [] → left_out_ask (last_call (ks ++ k ∷ [])) l ≡ []
    → fold asked_call ks (k ∷ l ∷ []) ≡ ks ++ k ∷ l ∷ []
put_in_pair ks k l one two =
    ap (λ xs. asked_call xs l) (put_in_nothing ks k one) ∙ put_in_nothing (ks ++ k ∷ []) l two ∙ append_assoc ks (k ∷ []) (l ∷ [])

-- the last of these calls and one more
put_in_last : (ks : List Kind) (k : Kind) → last_call (ks ++ k ∷ []) ≡ Some k
put_in_last ks k = fold-append (λ _ x. Some x) None ks (k ∷ [])

put_in_acquire : (ks : List Kind) (l : ℕ) → left_out_ask (last_call (ks ++ kind.Ask l ∷ [])) (kind.Acquire l) ≡ []
put_in_acquire ks l =
    ap (λ last. left_out_ask last (kind.Acquire l)) (put_in_last ks (kind.Ask l)) ∙ cond-true (l == l) [] (kind.Ask l ∷ []) (eq-eqb l l refl)

put_in_await : (ks : List Kind) (f : ℕ) → left_out_ask (last_call (ks ++ kind.Watch f ∷ [])) (kind.Await f) ≡ []
put_in_await ks f =
    ap (λ last. left_out_ask last (kind.Await f)) (put_in_last ks (kind.Watch f)) ∙ cond-true (f == f) [] (kind.Watch f ∷ []) (eq-eqb f f refl)

-- an instruction's calls
put_in_instruction : (ks : List Kind) (i : Instruction) (first : List Kind) → AreEventsOfInstruction i first → fold asked_call ks first ≡ ks ++ first
put_in_instruction ks (Load a) first is = rw is.1 (put_in_nothing ks (kind.Load a is.0) refl)
put_in_instruction ks (Store a v) first is = rw is (put_in_nothing ks (kind.Store a v) refl)
put_in_instruction ks (Add a v) first is = rw is.1 (put_in_pair ks _ _ refl refl)
put_in_instruction ks (Acquire l) first is = rw is (put_in_pair ks (kind.Ask l) (kind.Acquire l) refl (put_in_acquire ks l))
put_in_instruction ks (Release l) first is = rw is (put_in_nothing ks (kind.Release l) refl)
put_in_instruction ks Barrier first is = rw is (put_in_pair ks kind.Arrive kind.Depart refl refl)
put_in_instruction ks (Set f) first is = rw is (put_in_nothing ks (kind.Set f) refl)
put_in_instruction ks (Await f) first is = rw is (put_in_pair ks (kind.Watch f) (kind.Await f) refl (put_in_await ks f))
put_in_instruction ks Cut first is = rw is (sym (append-nil ks))

-- a section's
put_in_instructions : (ks : List Kind) (is : List Instruction) (kinds : List Kind) → AreEventsOfInstructions is kinds
    → fold asked_call ks kinds ≡ ks ++ kinds
put_in_instructions ks [] kinds are = rw are (sym (append-nil ks))
put_in_instructions ks (i ∷ is) kinds are =
    let first = are.0 in
    let rest = are.1 in
    ap (fold asked_call ks) are.2
    ∙ fold-append asked_call ks first rest
    ∙ ap (λ xs. fold asked_call xs rest) (put_in_instruction ks i first are.3)
    ∙ put_in_instructions (ks ++ first) is rest are.4
    ∙ append_assoc ks first rest
    ∙ ap (λ xs. ks ++ xs) (sym are.2)

-- loads
put_in_loads : (ks : List Kind) (loads : List (ℕ × ℕ)) → fold asked_call ks (map load_of loads) ≡ ks ++ map load_of loads
put_in_loads ks [] = sym (append-nil ks)
put_in_loads ks (x ∷ loads) =
    ap (λ xs. fold asked_call xs (map load_of loads)) (put_in_nothing ks (load_of x) refl)
    ∙ put_in_loads (ks ++ load_of x ∷ []) loads
    ∙ append_assoc ks (load_of x ∷ []) (map load_of loads)

-- all that a section says
put_in_section : (section : List Instruction) (shown : List ℕ) (kinds : List Kind) → FollowsSection section shown kinds
    → fold asked_call [] kinds ≡ kinds
put_in_section section shown kinds follows =
    let own = follows.own in
    let loads = map load_of follows.loads in
    ap (fold asked_call []) follows.kinds_are
    ∙ fold-append asked_call [] own (kind.Arrive ∷ kind.Depart ∷ loads)
    ∙ ap (λ xs. fold asked_call xs (kind.Arrive ∷ kind.Depart ∷ loads)) (put_in_instructions [] section own follows.follows)
    ∙ fold-append asked_call own (kind.Arrive ∷ kind.Depart ∷ []) loads
    ∙ ap (λ xs. fold asked_call xs loads) (put_in_pair own kind.Arrive kind.Depart refl refl)
    ∙ put_in_loads (own ++ kind.Arrive ∷ kind.Depart ∷ []) follows.loads
    ∙ append_assoc own (kind.Arrive ∷ kind.Depart ∷ []) loads
    ∙ sym follows.kinds_are

-- asks of p are its calls, and no other's
put_in_own : (g : List Event) (p : ℕ) (last : Option Kind) (k : Kind)
    → calls_of (g ++ map (event p) (left_out_ask last k)) p ≡ calls_of g p ++ left_out_ask last k
put_in_own g p last k = go (left_out_ask last k) (asks last k)
  where
    -- at most one, which is no fetch
    IsAsk : List Kind → Type 0
    IsAsk kinds = (kinds ≡ []) ⊎ ((a : Kind) × (is_fetch a ≡ false) × (kinds ≡ a ∷ []))

    one : (b : Bool) (a : Kind) → is_fetch a ≡ false → IsAsk (cond b [] (a ∷ []))
    one true a call = inl refl
    one false a call = inr (a, call, refl)

    asks : (last : Option Kind) (k : Kind) → IsAsk (left_out_ask last k)
    asks last (kind.Acquire l) = one _ (kind.Ask l) refl
    asks last (kind.Await f) = one _ (kind.Watch f) refl
    asks last _ = inl refl

    go : (kinds : List Kind) → IsAsk kinds → calls_of (g ++ map (event p) kinds) p ≡ calls_of g p ++ kinds
    go kinds (inl none) = rw none (ap (λ h. calls_of h p) (append-nil g) ∙ sym (append-nil (calls_of g p)))
    go kinds (inr some) = rw some.2 (followed_calls-own g p some.0 some.1)

put_in_others : (g : List Event) (p q : ℕ) (kinds : List Kind) → p ≢ q → calls_of (g ++ map (event p) kinds) q ≡ calls_of g q
put_in_others g p q [] apart = ap (λ h. calls_of h q) (append-nil g)
put_in_others g p q (k ∷ kinds) apart =
    ap (λ h. calls_of h q) (sym (append_assoc g (event p k ∷ []) (map (event p) kinds)))
    ∙ put_in_others (g ++ event p k ∷ []) p q kinds apart ∙ followed_calls-others g p q k apart

-- what a processor calls, with one event more: another's, its own call, or its fetch
put_in_other_event : (g : List Event) (e : Event) (q : ℕ) → e.processor ≢ q → calls_of (with_ask g e) q ≡ calls_of g q
put_in_other_event g e q apart =
    let asks = left_out_ask (last_call (calls_of g e.processor)) e.kind in
    followed_calls-others (g ++ map (event e.processor) asks) e.processor q e.kind apart ∙ put_in_others g e.processor q asks apart

put_in_own_call : (g : List Event) (e : Event) → is_fetch e.kind ≡ false
    → calls_of (with_ask g e) e.processor ≡ asked_call (calls_of g e.processor) e.kind
put_in_own_call g e call =
    let last = last_call (calls_of g e.processor) in
    followed_calls-own (g ++ map (event e.processor) (left_out_ask last e.kind)) e.processor e.kind call
    ∙ ap (λ ks. ks ++ e.kind ∷ []) (put_in_own g e.processor last e.kind)

put_in_fetch : (k : Kind) (last : Option Kind) → is_fetch k ≡ true → left_out_ask last k ≡ []
put_in_fetch (kind.Acquire l) last is = absurd cc
put_in_fetch (kind.Await f) last is = absurd cc
put_in_fetch _ last is = refl

put_in_own_fetch : (g : List Event) (e : Event) → is_fetch e.kind ≡ true → calls_of (with_ask g e) e.processor ≡ calls_of g e.processor
put_in_own_fetch g e fetch =
    let last = last_call (calls_of g e.processor) in
    followed_calls-append (g ++ map (event e.processor) (left_out_ask last e.kind)) (e ∷ []) e.processor
    ∙ ap (λ ks. calls_of (g ++ map (event e.processor) (left_out_ask last e.kind)) e.processor ++ ks) (followed_calls_one-fetch e.processor e.processor e.kind fetch)
    ∙ append-nil (calls_of (g ++ map (event e.processor) (left_out_ask last e.kind)) e.processor)
    ∙ put_in_own g e.processor last e.kind
    ∙ ap (λ ks. calls_of g e.processor ++ ks) (put_in_fetch e.kind last fetch) ∙ append-nil (calls_of g e.processor)

-- what a processor calls, with the asks put in, goes by its own calls alone
put_in_calls : (g es : List Event) (q : ℕ) → calls_of (fold with_ask g es) q ≡ fold asked_call (calls_of g q) (calls_of es q)
put_in_calls g [] q = refl
put_in_calls g (e ∷ es) q = put_in_calls (with_ask g e) es q ∙ elim (cases_eq e.processor q) [
  | inl same ↦ own q same
  | inr apart ↦
      ap (λ ks. fold asked_call ks (calls_of es q)) (put_in_other_event g e q apart)
      ∙ ap (fold asked_call (calls_of g q)) (sym (followed_calls_first-other e.processor q e.kind es apart))
]
  where
    mine : (b : Bool) → is_fetch e.kind ≡ b → fold asked_call (calls_of (with_ask g e) e.processor) (calls_of es e.processor)
        ≡ fold asked_call (calls_of g e.processor) (calls_of (e ∷ es) e.processor)
    mine true fetch =
        ap (λ ks. fold asked_call ks (calls_of es e.processor)) (put_in_own_fetch g e fetch)
        ∙ ap (fold asked_call (calls_of g e.processor)) (sym (followed_calls_first-fetch e.processor e.processor e.kind es fetch))
    mine false call =
        ap (λ ks. fold asked_call ks (calls_of es e.processor)) (put_in_own_call g e call)
        ∙ ap (fold asked_call (calls_of g e.processor)) (sym (followed_calls_first e.processor e.kind es call))

    own : (q : ℕ) → e.processor ≡ q → fold asked_call (calls_of (with_ask g e) q) (calls_of es q)
        ≡ fold asked_call (calls_of g q) (calls_of (e ∷ es) q)
    own q same = subst (λ r. fold asked_call (calls_of (with_ask g e) r) (calls_of es r) ≡ fold asked_call (calls_of g r) (calls_of (e ∷ es) r)) same
        (mine (is_fetch e.kind) refl)

-- so a history that follows its script as it is written follows it with the asks put in
pub asks_put_in_law : WrittenAsksLaw
asks_put_in_law s h follows p section at =
    let kinds = follows p section at in
    subst (FollowsSection section (script_calls_shown_by s p))
    (sym (put_in_calls [] h p ∙ put_in_section section (script_calls_shown_by s p) (calls_of h p) kinds)) kinds
