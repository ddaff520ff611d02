-- How far each processor has come, after one event more.
use Rattle.std.proofs.Common.{ℕ, ◌≡◌, ◌≢◌, ◌+◌, ◌<◌, ◌≤◌, inl, inr, Bool, true, false, List, [], ◌∷◌, ◌++◌, map, Some, None, length, slice_get, drop, slice_set, take, sym, ap, subst, ◌∙◌, add-one, append-nil, append_assoc, get_or, length-set, replicate, arith}
use Rattle.std.specs.Global.{Vec}
use Rattle.std.proofs.lemmas.Bool.{cases_eq, false≢true}
use Rattle.std.proofs.lemmas.Option.{same_Some, slice_get-get_or, slice_get_cases, slice_get_within}
use Rattle.std.proofs.lemmas.List.{length-append, length-replicate}
use Rattle.std.proofs.lemmas.List.Sums.{fold-append}
use Rattle.std.proofs.Math.Seq.{take-append_seam}
use Rattle.base.proofs.SlicesAndCounts.{slice_take-suc_at}
use Rattle.base.proofs.SliceSets.{slice_get-replicate_found, slice_get-set_found, slice_get-set_other}
use Rattle.journal.specs.declared.event.Event.{Event}
use Rattle.journal.specs.declared.event.Kind.{Kind}
use Rattle.journal.specs.DidEvent.{event}
use Rattle.lrc_script.specs.declared.script.Instruction.{Instruction}
use Rattle.lrc_script.specs.Plan.{Plan}
use Rattle.conformance.specs.Follows.{calls_of, is_fetch, Follows}
use Rattle.conformance.specs.ScriptBegins.{BeginsScript, BeginsSection}
use Rattle.conformance.proofs.FollowedCalls.{followed_calls-append, followed_calls-own, followed_calls-others, followed_calls_one-fetch}
use Rattle.explore.specs.declared.prefixes.script_call.ScriptCall.{ScriptCall}
use Rattle.explore.specs.Prefixes.ScriptCalls.{AreScriptCallRows, FitsScriptCall, ScriptCallsNext, last_reply_of_script_calls, script_call_reply_after, script_calls_of_section, script_calls_shown_by}
use Rattle.explore.proofs.PrefixRuns.Beginnings.{prefix_beginning_calls_now, prefix_beginning_empty, prefix_beginning_push, prefix_beginning_script_front}
use Rattle.explore.proofs.PrefixRuns.SectionCalls.{section_calls_follows_length}
use Rattle.lrc_tester.specs.declared.following.Come.{Come}
use Rattle.lrc_tester.specs.declared.following.Stray.{Stray}
use Rattle.lrc_tester.specs.declared.next.Next.{Next}
use Rattle.lrc_tester.specs.Following.{FollowsItsSection, HasComeSoFar, HaveCome, IsEventNoted, IsNext, IsNextAfter, IsStrayMet, last_call, left_out_ask, with_ask, with_asks}

-- an event that is no call of a processor with a section
events_noted_same : (s : Plan) (come : List Come) (g : List Event) (e : Event)
    → ((q : ℕ) → q < length come → calls_of (g ++ e ∷ []) q ≡ calls_of g q) → HaveCome s come g → HaveCome s come (g ++ e ∷ [])
events_noted_same s come g e same old = record {
  long = old.long;
  begins = λ q section at.
      let inside : q < length come = subst (λ n. q < n) (sym old.long) (slice_get_within s.sections q section at) in
      subst (BeginsSection section (script_calls_shown_by s q)) (sym (same q inside)) (old.begins q section at);
  each = λ q x at.
      let calls = same q (slice_get_within come q x at) in
      let was = old.each q x at in
      record {
        made = was.made ∙ ap length (sym calls);
        reply = was.reply ∙ ap last_reply_of_script_calls (sym calls);
        last = was.last ∙ ap last_call (sym calls);
      };
}

-- a fetch is no call
pub events_noted_fetch : (s : Plan) (come : List Come) (g : List Event) (e : Event) → is_fetch e.kind ≡ true
    → HaveCome s come g → HaveCome s come (g ++ e ∷ [])
events_noted_fetch s come g e is = events_noted_same s come g e
    (λ q inside. followed_calls-append g (e ∷ []) q ∙ ap (λ ks. calls_of g q ++ ks) (followed_calls_one-fetch e.processor q e.kind is)
    ∙ append-nil (calls_of g q))

-- nor is an event of a processor without a section
pub events_noted_outside : (s : Plan) (come : List Come) (g : List Event) (e : Event) → length come ≤ e.processor
    → HaveCome s come g → HaveCome s come (g ++ e ∷ [])
events_noted_outside s come g e outside = events_noted_same s come g e
    (λ q inside. followed_calls-others g e.processor q e.kind (λ is. absurd (omega (arith, is, inside, outside))))

-- what is at hand of a processor that calls what its steps say next
pub record IsNextCallNoted (s : Plan) (rows : List (Vec ScriptCall)) (come : List Come) (steps : List ScriptCall) (now : Come) (e : Event)
    : Type 0 where
  pub rows_are : AreScriptCallRows s rows
  pub call : is_fetch e.kind ≡ false
  pub row : Vec ScriptCall
  pub row_at : slice_get rows e.processor ≡ Some row
  pub steps_are : steps ≡ row.items
  pub come_at : slice_get come e.processor ≡ Some now

-- what the steps say next, after these calls
events_noted_next : (s : Plan) (rows : List (Vec ScriptCall)) (come : List Come) (steps : List ScriptCall) (now : Come) (g : List Event) (e : Event)
    → IsNextCallNoted s rows come steps now e → HaveCome s come g → (step : ScriptCall) → slice_get steps now.made ≡ Some step
    → FitsScriptCall now.reply step e.kind → ScriptCallsNext s g e.processor e.kind
events_noted_next s rows come steps now g e h old step at fits = record {
  call = h.call;
  next = λ section there.
      let was = old.each e.processor now h.come_at in
      let said : steps ≡ script_calls_of_section section (script_calls_shown_by s e.processor) =
      h.steps_are ∙ h.rows_are.each e.processor section h.row there h.row_at in
      record {
        step = step;
        at = subst (λ n. slice_get (script_calls_of_section section (script_calls_shown_by s e.processor)) n ≡ Some step) was.made
            (subst (λ (xs : List ScriptCall). slice_get xs now.made ≡ Some step) said at);
        is = subst (λ reply. FitsScriptCall reply step e.kind) was.reply fits;
      };
}

-- a call that the steps say next
pub events_noted_call : (s : Plan) (rows : List (Vec ScriptCall)) (come : List Come) (steps : List ScriptCall) (now next : Come) (g : List Event) (e : Event)
    → IsNextCallNoted s rows come steps now e → HaveCome s come g
    → (step : ScriptCall) × (slice_get steps now.made ≡ Some step) × FitsScriptCall now.reply step e.kind
    × (next.made ≡ now.made + 1) × (next.reply ≡ script_call_reply_after now.reply e.kind) × (next.last ≡ Some e.kind)
    → HaveCome s (slice_set come e.processor next) (g ++ e ∷ [])
events_noted_call s rows come steps now next g e h old is = record {
  long = length-set come e.processor next ∙ old.long;
  begins = prefix_beginning_push s g e.processor e.kind old.begins
      (events_noted_next s rows come steps now g e h old is.0 is.1 is.2);
  each = λ q x at. elim (cases_eq e.processor q) [
    | inl same ↦ mine q x same at
    | inr apart ↦ others q x apart at
  ];
}
  where
    calls : calls_of (g ++ e ∷ []) e.processor ≡ calls_of g e.processor ++ e.kind ∷ []
    calls = followed_calls-own g e.processor e.kind h.call

    now_is : HasComeSoFar g e.processor now
    now_is = old.each e.processor now h.come_at

    next_is : HasComeSoFar (g ++ e ∷ []) e.processor next
    next_is = record {
      made = is.3 ∙ ap (λ n. n + 1) now_is.made ∙ sym (ap length calls ∙ length-append (calls_of g e.processor) (e.kind ∷ []));
      reply = is.4 ∙ ap (λ r. script_call_reply_after r e.kind) now_is.reply
          ∙ sym (ap last_reply_of_script_calls calls ∙ fold-append script_call_reply_after 0 (calls_of g e.processor) (e.kind ∷ []));
      last = is.5 ∙ sym (ap last_call calls ∙ fold-append (λ _ k. Some k) None (calls_of g e.processor) (e.kind ∷ []));
    }

    mine : (q : ℕ) (x : Come) → e.processor ≡ q → slice_get (slice_set come e.processor next) q ≡ Some x → HasComeSoFar (g ++ e ∷ []) q x
    mine q x same at =
        subst (λ r. HasComeSoFar (g ++ e ∷ []) r x) same
        (subst (HasComeSoFar (g ++ e ∷ []) e.processor)
        (slice_get-set_found come e.processor next x (subst (λ r. slice_get (slice_set come e.processor next) r ≡ Some x) (sym same) at))
        next_is)

    others : (q : ℕ) (x : Come) → e.processor ≢ q → slice_get (slice_set come e.processor next) q ≡ Some x → HasComeSoFar (g ++ e ∷ []) q x
    others q x apart at =
        let was = old.each q x (sym (slice_get-set_other come e.processor q next (λ is. apart (sym is))) ∙ at) in
        let same = followed_calls-others g e.processor q e.kind apart in
        record {
          made = was.made ∙ ap length (sym same);
          reply = was.reply ∙ ap last_reply_of_script_calls (sym same);
          last = was.last ∙ ap last_call (sym same);
        }

-- a call that they don't say next
pub events_noted_stray : (s : Plan) (rows : List (Vec ScriptCall)) (come : List Come) (steps : List ScriptCall) (now : Come) (g : List Event) (e : Event)
    → IsNextCallNoted s rows come steps now e → HaveCome s come g
    → ((step : ScriptCall) → slice_get steps now.made ≡ Some step → ¬ FitsScriptCall now.reply step e.kind)
    → ¬ BeginsScript s (g ++ e ∷ [])
events_noted_stray s rows come steps now g e h old never begins =
    let inside : e.processor < length s.sections = subst (λ n. e.processor < n) old.long (slice_get_within come e.processor now h.come_at) in
    let section = get_or s.sections e.processor [] in
    let there : slice_get s.sections e.processor ≡ Some section = slice_get-get_or s.sections e.processor [] inside in
    let said = script_calls_of_section section (script_calls_shown_by s e.processor) in
    let was = old.each e.processor now h.come_at in
    let is = prefix_beginning_calls_now s g e.processor e.kind h.call begins section there in
    let same : steps ≡ said = h.steps_are ∙ h.rows_are.each e.processor section h.row there h.row_at in
    never is.step
    (subst (λ (xs : List ScriptCall). slice_get xs now.made ≡ Some is.step) (sym same)
    (subst (λ n. slice_get said n ≡ Some is.step) (sym was.made) is.at))
    (subst (λ reply. FitsScriptCall reply is.step e.kind) (sym was.reply) is.is)

-- nothing has happened yet
pub events_noted_start : (s : Plan) (rows : List (Vec ScriptCall)) (come : List Come) (n : ℕ) → AreScriptCallRows s rows → n ≡ length rows
    → come ≡ replicate n (record { made = 0; reply = 0; last = None }) → HaveCome s come []
events_noted_start s rows come n are long is = record {
  long = ap length is ∙ length-replicate n _ ∙ long ∙ are.long;
  begins = (prefix_beginning_empty s).begins;
  each = λ p x at.
      let same = slice_get-replicate_found n (record { made = 0; reply = 0; last = None }) x p (subst (λ xs. slice_get xs p ≡ Some x) is at) in
      record {
        made = ap (λ (y : Come). y.made) (sym same);
        reply = ap (λ (y : Come). y.reply) (sym same);
        last = ap (λ (y : Come). y.last) (sym same);
      };
}

-- who has made all the calls of its steps has come to its section's end
pub events_noted_whole : (s : Plan) (rows : List (Vec ScriptCall)) (come : List Come) (g : List Event) → AreScriptCallRows s rows → HaveCome s come g
    → (p : ℕ) (x : Come) (row : Vec ScriptCall) → slice_get come p ≡ Some x → slice_get rows p ≡ Some row → x.made ≡ length row.items
    → FollowsItsSection s g p
events_noted_whole s rows come g are old p x row there row_at is section at =
    (section_calls_follows_length section (script_calls_shown_by s p) (calls_of g p) (old.begins p section at)).1
    (sym (old.each p x there).made ∙ is ∙ ap length (are.each p section row at row_at))

-- and who hasn't made them all hasn't
pub events_noted_unfinished : (s : Plan) (rows : List (Vec ScriptCall)) (come : List Come) (g : List Event) → AreScriptCallRows s rows → HaveCome s come g
    → (p : ℕ) (x : Come) (row : Vec ScriptCall) → slice_get come p ≡ Some x → slice_get rows p ≡ Some row → x.made ≢ length row.items
    → ¬ FollowsItsSection s g p
events_noted_unfinished s rows come g are old p x row there row_at isnt whole =
    let inside : p < length s.sections = subst (λ n. p < n) old.long (slice_get_within come p x there) in
    let section = get_or s.sections p [] in
    let at : slice_get s.sections p ≡ Some section = slice_get-get_or s.sections p [] inside in
    isnt ((old.each p x there).made
    ∙ (section_calls_follows_length section (script_calls_shown_by s p) (calls_of g p) (old.begins p section at)).0 (whole section at)
    ∙ sym (ap length (are.each p section row at row_at)))

-- of a processor before this one: it has come to its section's end
abbrev pub AreWholeBefore : List Come → List (Vec ScriptCall) → ℕ → Type 0
AreWholeBefore come rows p = (q : ℕ) → q < p → (x : Come) (row : Vec ScriptCall) → slice_get come q ≡ Some x → slice_get rows q ≡ Some row
    → x.made ≡ length row.items

pub events_noted_whole_before : (s : Plan) (rows : List (Vec ScriptCall)) (come : List Come) (g : List Event) → AreScriptCallRows s rows → HaveCome s come g
    → (p : ℕ) → length come ≡ length rows → p ≤ length come → AreWholeBefore come rows p → (q : ℕ) → q < p → FollowsItsSection s g q
events_noted_whole_before s rows come g are old p long inside whole q lt = elim (slice_get_cases rows q).1 [
  | inl found ↦
      events_noted_whole s rows come g are old q (get_or come q (record { made = 0; reply = 0; last = None })) found.0
      (slice_get-get_or come q _ (omega (arith, lt, inside))) found.2
      (whole q lt _ found.0 (slice_get-get_or come q _ (omega (arith, lt, inside))) found.2)
  | inr past ↦ absurd (omega (arith, lt, inside, long, past.0))
]

pub events_noted_all_whole : (s : Plan) (rows : List (Vec ScriptCall)) (come : List Come) (g : List Event) → AreScriptCallRows s rows → HaveCome s come g
    → length come ≡ length rows → AreWholeBefore come rows (length come) → Follows s g
events_noted_all_whole s rows come g are old long whole p section at =
    events_noted_whole_before s rows come g are old (length come) long (omega arith) whole p
    (subst (λ n. p < n) (sym old.long) (slice_get_within s.sections p section at)) section at

-- some events of a processor without a section
pub events_noted_outside_all : (s : Plan) (come : List Come) (g : List Event) (p : ℕ) (kinds : List Kind) → length come ≤ p
    → HaveCome s come g → HaveCome s come (g ++ map (event p) kinds)
events_noted_outside_all s come g p [] outside old = subst (HaveCome s come) (sym (append-nil g)) old
events_noted_outside_all s come g p (k ∷ kinds) outside old =
    subst (HaveCome s come) (append_assoc g (event p k ∷ []) (map (event p) kinds))
    (events_noted_outside_all s come (g ++ event p k ∷ []) p kinds outside (events_noted_outside s come g (event p k) outside old))

-- an event of a processor without a section, with the ask that was left out
pub events_noted_outside_ask : (s : Plan) (come : List Come) (g : List Event) (e : Event) → length come ≤ e.processor
    → HaveCome s come g → HaveCome s come (with_ask g e)
events_noted_outside_ask s come g e outside old =
    events_noted_outside s come (g ++ map (event e.processor) (left_out_ask (last_call (calls_of g e.processor)) e.kind)) e outside
    (events_noted_outside_all s come g e.processor (left_out_ask (last_call (calls_of g e.processor)) e.kind) outside old)

-- what was put in before an event, if its processor's last call is this
pub events_noted_put_in : (s : Plan) (come : List Come) (now : Come) (g : List Event) (e : Event) (kinds : List Kind)
    → slice_get come e.processor ≡ Some now → HaveCome s come g → kinds ≡ left_out_ask now.last e.kind
    → with_ask g e ≡ (g ++ map (event e.processor) kinds) ++ e ∷ []
events_noted_put_in s come now g e kinds at old is =
    ap (λ ks. (g ++ map (event e.processor) ks) ++ e ∷ [])
    (sym (is ∙ ap (λ l. left_out_ask l e.kind) (old.each e.processor now at).last))

-- nothing was put in
pub events_noted_put_in_none : (s : Plan) (come : List Come) (now : Come) (g : List Event) (e : Event)
    → slice_get come e.processor ≡ Some now → HaveCome s come g → [] ≡ left_out_ask now.last e.kind → with_ask g e ≡ g ++ e ∷ []
events_noted_put_in_none s come now g e at old is =
    events_noted_put_in s come now g e [] at old is ∙ ap (λ (xs : List Event). xs ++ e ∷ []) (append-nil g)

-- if the first of two isn't said next, neither are both
pub events_noted_second : (s : Plan) (come : List Come) (g : List Event) (e f : Event) (b : Bool) → b ≡ false → IsEventNoted s come (g ++ e ∷ []) b
    → IsEventNoted s come ((g ++ e ∷ []) ++ f ∷ []) b
events_noted_second s come g e f true is noted = absurd (false≢true (sym is))
events_noted_second s come g e f false is noted = λ begins. noted (prefix_beginning_script_front s (g ++ e ∷ []) (f ∷ []) begins)

-- with one event more, the events with the asks put in
pub events_noted_with_asks_more : (h : List Event) (place : ℕ) (e : Event) → slice_get h place ≡ Some e
    → with_asks (take (place + 1) h) ≡ with_ask (with_asks (take place h)) e
events_noted_with_asks_more h place e at = rw (add-one, slice_take-suc_at h place e at) (fold-append with_ask [] (take place h) (e ∷ []))

-- the history begins the script up to this place, and not with the event there
pub events_noted_stray_at : (s : Plan) (h : List Event) (place made : ℕ) (come : List Come) (e : Event) → slice_get h place ≡ Some e
    → HaveCome s come (with_asks (take place h)) → ¬ BeginsScript s (with_ask (with_asks (take place h)) e)
    → ((x : Come) → slice_get come e.processor ≡ Some x → made ≡ x.made)
    → IsStrayMet s h (record { place = place; processor = e.processor; made = made })
events_noted_stray_at s h place made come e at old strays is = record {
  stray = record {
    inside = slice_get_within h place e at;
    begins = old.begins;
    strays = subst (λ xs. ¬ BeginsScript s xs) (sym (events_noted_with_asks_more h place e at)) strays;
  };
  of = λ f there. ap (λ (x : Event). x.processor) (same_Some f e (sym there ∙ at));
  made = λ inside.
      let now = get_or come e.processor (record { made = 0; reply = 0; last = None }) in
      let there : slice_get come e.processor ≡ Some now = slice_get-get_or come e.processor _ (subst (λ n. e.processor < n) (sym old.long) inside) in
      is now there ∙ (old.each e.processor now there).made;
}

-- one place further
pub events_noted_more : (s : Plan) (h : List Event) (place : ℕ) (come : List Come) (e : Event) → slice_get h place ≡ Some e
    → HaveCome s come (with_ask (with_asks (take place h)) e) → HaveCome s come (with_asks (take (place + 1) h))
events_noted_more s h place come e at now = subst (HaveCome s come) (sym (events_noted_with_asks_more h place e at)) now

-- one processor more that has made all the calls of its steps
pub events_noted_whole_more : (come : List Come) (rows : List (Vec ScriptCall)) (p : ℕ) (x : Come) (row : Vec ScriptCall) → slice_get come p ≡ Some x
    → slice_get rows p ≡ Some row → x.made ≡ length row.items → AreWholeBefore come rows p → AreWholeBefore come rows (p + 1)
events_noted_whole_more come rows p x row at row_at is before q lt y other there found = elim (cases_eq p q) [
  | inl same ↦
      (let x_is : x ≡ y = same_Some x y (sym at ∙ subst (λ r. slice_get come r ≡ Some y) (sym same) there) in
      let row_is : row ≡ other = same_Some row other (sym row_at ∙ subst (λ r. slice_get rows r ≡ Some other) (sym same) found) in
      ap (λ (z : Come). z.made) (sym x_is) ∙ is ∙ ap (λ (v : Vec ScriptCall). length v.items) row_is)
  | inr apart ↦ before q (omega (arith, lt, apart)) y other there found
]

-- what a slice is after it was written to as a whole
pub events_noted_written_back : (come now : List Come) (n : ℕ) → n ≡ length now → take n (now ++ drop (length now) come) ≡ now
events_noted_written_back come now n is = rw is (take-append_seam now (drop (length now) come))

-- what comes next for the processor of the event that strays
pub events_noted_stray_next : (s : Plan) (h : List Event) (x : Stray) (y : Next) → IsStrayMet s h x
    → ((section : List Instruction) → slice_get s.sections x.processor ≡ Some section
    → IsNextAfter section (length (script_calls_shown_by s x.processor)) x.made y)
    → (e : Event) → slice_get h x.place ≡ Some e → IsNext s (with_asks (take x.place h)) e.processor y
events_noted_stray_next s h x y met next e there section at =
    let same = met.of e there in
    let own : slice_get s.sections x.processor ≡ Some section = subst (λ p. slice_get s.sections p ≡ Some section) same at in
    subst (λ p. IsNextAfter section (length (script_calls_shown_by s p)) (length (calls_of (with_asks (take x.place h)) p)) y) (sym same)
    (subst (λ n. IsNextAfter section (length (script_calls_shown_by s x.processor)) n y)
    (met.made (slice_get_within s.sections x.processor section own)) (next section own))
