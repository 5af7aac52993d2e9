-- Kinds 02 and 03: where a configuration request goes, and its status, each exactly under its condition.
use Prim.Native.Nat.{ℕ, ◌≤◌, ◌<◌}
use native.Mathlib.Omega.{arith}
use mathlib.Core.Bool.{Bool, true, false, not, ◌&&◌, cond, false≢true}
use mathlib.Core.List.{List, []}
use mathlib.Core.Logic.{◌≢◌}
use mathlib.Core.Path.{◌≡◌, refl, sym, ap, ◌∙◌, subst}
use lib.Dec.{T, ltb, eqb}
use borrow.Author.Tests.{ltb-true, ltb-false, lt-ltb, le-ltb, eqb-true, eq-eqb}
use Rattle.bits.specs.Bits.{bit}
use Rattle.bits.proofs.Tests.{both_left, both_right, untrue, split, not_both}
use Rattle.bits.proofs.Choices.{when_true, unless-true, unless-false}
use Rattle.times.specs.declared.Nanos.{Nanos}
use Rattle.frs_queue.specs.Queue.{no_tally}
use Rattle.readiness.specs.declared.Cause.{Cause}
use Rattle.readiness.specs.declared.Cause.TheVariants.{LinkUp, Flr, D3hot}
use Rattle.readiness.specs.declared.Phase.{Phase}
use Rattle.readiness.specs.declared.Phase.TheVariants.{Down, Pending, Ready}
use Rattle.readiness.specs.declared.Setup.{Setup}
use Rattle.readiness.specs.Status.{progress_phase}
use Rattle.records.specs.declared.Request.{Request}
use Rattle.records.specs.declared.Completion.TheVariants as completion
use Rattle.records.specs.declared.Crs.{Crs}
use Rattle.records.specs.declared.Crs.TheVariants.{Shown, VisibilityOff, NotVendorId}
use Rattle.records.specs.declared.Route.{Route}
use Rattle.records.specs.declared.Route.TheVariants as route
use Rattle.records.specs.State.{State, phase_at}
use Rattle.records.specs.Answer.{Ran, reply, answered, completion_number}
use Rattle.records.specs.Route.{reads_vendor_id, crs_of, pending_route, phase_route, route_of, crs_completion, route_completion, refused_data, is_access}
use Rattle.records.specs.Requests.{read_effect, write_effect}
use Rattle.records.specs.Run.{effect, run}
use Rattle.records.specs.Statuses.{status_of, can_give, one_of, request, InRange, Unsupported, link_down, slot_down, in_progress, IsPending, until, IsCrs, ShowsCrs, RequestStatuses}
use Rattle.records.proofs.Leaving.{routed}
use Rattle.records.proofs.SoundFacts.{pending_not_down}

-- ---- a status with its reason

-- the number x is one of a list, and what it says of the state holds
pub record Reason (numbers : List ℕ) (Because : ℕ → Type 0) (x : ℕ) : Type 0 where
  pub number : ℕ
  pub why : Because number
  pub listed : T (one_of number numbers)
  pub given : x ≡ number

pub because : {numbers : List ℕ} {Because : ℕ → Type 0} {x : ℕ} → Reason numbers Because x → (n : ℕ) → x ≡ n → Because n
because {numbers} {Because} r n e = subst Because (sym r.given ∙ e) r.why

pub in_list : {numbers : List ℕ} {Because : ℕ → Type 0} {x : ℕ} → Reason numbers Because x → T (one_of x numbers)
in_list {numbers} r = subst (λ (n : ℕ). T (one_of n numbers)) (sym r.given) r.listed

-- ---- CRS is shown, or not

shows : (visibility is_read : Bool) (q : Request) → (visibility && reads_vendor_id is_read q) ≡ true → ShowsCrs visibility is_read q
unfolding reads_vendor_id
shows visibility is_read q e =
    let d = both_right visibility (is_read && eqb q.word 0 && bit q.enables 0 && bit q.enables 1) e in
    let a = both_left ((is_read && eqb q.word 0) && bit q.enables 0) (bit q.enables 1) d in
    let b = both_left (is_read && eqb q.word 0) (bit q.enables 0) a in
    record {
      visible = both_left visibility (is_read && eqb q.word 0 && bit q.enables 0 && bit q.enables 1) e;
      read = both_left is_read (eqb q.word 0) b;
      word = eqb-true q.word 0 (both_right is_read (eqb q.word 0) b);
      low = both_right (is_read && eqb q.word 0) (bit q.enables 0) a;
      high = both_right ((is_read && eqb q.word 0) && bit q.enables 0) (bit q.enables 1) d;
    }

shows_test : (visibility is_read : Bool) (q : Request) → ShowsCrs visibility is_read q → (visibility && reads_vendor_id is_read q) ≡ true
unfolding reads_vendor_id
shows_test visibility is_read q w = rw (w.visible, w.read, eq-eqb q.word 0 w.word, w.low, w.high)

crs_shown : (visibility is_read : Bool) (q : Request) → ShowsCrs visibility is_read q → crs_of visibility is_read q ≡ Shown
unfolding crs_of reads_vendor_id
crs_shown visibility is_read q w = rw (w.visible, w.read, eq-eqb q.word 0 w.word, w.low, w.high)

-- any other CRS is to be re-issued
crs_retry : (visibility is_read : Bool) (q : Request) → (ShowsCrs visibility is_read q → ⊥) → crs_completion (crs_of visibility is_read q) ≡ completion.CrsRetry
unfolding crs_of
crs_retry false is_read q n = refl
crs_retry true is_read q n = by (reads_vendor_id is_read q) refl
  where
    by : (b : Bool) → reads_vendor_id is_read q ≡ b → crs_completion (cond b Shown NotVendorId) ≡ completion.CrsRetry
    by true e = absurd (n (shows true is_read q e))
    by false e = refl

-- ---- where a configuration request goes

module _ (setup : Setup) (s : State) (is_read : Bool) (q : Request) where
  abbrev clock : Nanos
  clock = s.port.clock

  abbrev crs : Crs
  crs = crs_of s.port.control.visibility is_read q

  goes_no_slot : setup.slots ≤ q.slot → routed setup s is_read q ≡ route.NoSlot
  unfolding route_of
  goes_no_slot h = rw (le-ltb q.slot setup.slots h)

  goes_no_word : q.slot < setup.slots → 63 < q.word → routed setup s is_read q ≡ route.NoWord
  unfolding route_of
  goes_no_word h k = rw (lt-ltb q.slot setup.slots h, lt-ltb 63 q.word k)

  goes_bad_enables : q.slot < setup.slots → q.word ≤ 63 → 15 < q.enables → routed setup s is_read q ≡ route.BadEnables
  unfolding route_of
  goes_bad_enables h k l = rw (lt-ltb q.slot setup.slots h, le-ltb 63 q.word k, lt-ltb 15 q.enables l)

  in_range_lem : InRange setup.slots q → routed setup s is_read q ≡ cond (not s.port.link) route.LinkDown (phase_route clock (phase_at s q.slot) crs)
  unfolding route_of
  in_range_lem h = rw (lt-ltb q.slot setup.slots h.slot, le-ltb 63 q.word h.word, le-ltb 15 q.enables h.enables)

  goes_link_down : InRange setup.slots q → s.port.link ≡ false → routed setup s is_read q ≡ route.LinkDown
  goes_link_down h e = in_range_lem h ∙ unless-false s.port.link _ _ e

  by_phase : InRange setup.slots q → s.port.link ≡ true → (p : Phase) → phase_at s q.slot ≡ p → routed setup s is_read q ≡ phase_route clock p crs
  by_phase h e p f = in_range_lem h ∙ unless-true s.port.link _ _ e ∙ ap (λ (p : Phase). phase_route clock p crs) f

  goes_down : InRange setup.slots q → phase_at s q.slot ≡ Down → routed setup s is_read q ≡ route.LinkDown
  unfolding phase_route
  goes_down h f = split s.port.link (λ e. by_phase h e Down f) (λ e. goes_link_down h e)

  goes_flr : (end t : Nanos) → InRange setup.slots q → s.port.link ≡ true → phase_at s q.slot ≡ Pending (Flr end) t → clock.0 < end.0
      → routed setup s is_read q ≡ route.FlrInProgress end
  unfolding phase_route pending_route
  goes_flr end t h e f l = by_phase h e (Pending (Flr end) t) f ∙ when_true (ltb clock.0 end.0) _ _ (lt-ltb clock.0 end.0 l)

  starting : (cause : Cause) (t : Nanos) → progress_phase clock (Pending cause t) ≡ false → pending_route clock cause t crs ≡ route.Starting cause t crs
  unfolding pending_route
  starting LinkUp t n = refl
  starting D3hot t n = refl
  starting (Flr end) t n = ap (λ (b : Bool). cond b (route.FlrInProgress end) (route.Starting (Flr end) t crs)) n

  goes_starting : (cause : Cause) (t : Nanos) → InRange setup.slots q → s.port.link ≡ true → phase_at s q.slot ≡ Pending cause t → progress_phase clock (Pending cause t) ≡ false
      → routed setup s is_read q ≡ route.Starting cause t crs
  unfolding phase_route
  goes_starting cause t h e f n = by_phase h e (Pending cause t) f ∙ starting cause t n

  goes_access : InRange setup.slots q → s.port.link ≡ true → phase_at s q.slot ≡ Ready → routed setup s is_read q ≡ route.Access
  unfolding phase_route
  goes_access h e f = by_phase h e Ready f

-- ---- an FLR in progress, or not

module _ (s : State) (slot : ℕ) (t : Nanos) where
  pub progresses : (cause : Cause) → phase_at s slot ≡ Pending cause t → progress_phase s.port.clock (Pending cause t) ≡ true → Unsupported s slot
  progresses LinkUp f p = absurd (false≢true p)
  progresses D3hot f p = absurd (false≢true p)
  progresses (Flr end) f p = in_progress end t f (ltb-true s.port.clock.0 end.0 p)

  supports : (cause : Cause) → s.port.link ≡ true → phase_at s slot ≡ Pending cause t → progress_phase s.port.clock (Pending cause t) ≡ false → Unsupported s slot → ⊥
  supports cause e f p (link_down d) = not_both e d
  supports cause e f p (slot_down d) = pending_not_down cause t (sym f ∙ d)
  supports cause e f p (in_progress end u d l) =
      not_both (lt-ltb s.port.clock.0 end.0 l) (sym (ap (progress_phase s.port.clock) d) ∙ ap (progress_phase s.port.clock) f ∙ p)

  not_progressing : (cause : Cause) → phase_at s slot ≡ Pending cause t → (Unsupported s slot → ⊥) → progress_phase s.port.clock (Pending cause t) ≡ false
  not_progressing cause f n = untrue _ (λ p. n (progresses cause f p))

-- ---- the status of a request

access_done : (r : Route) → is_access r ≡ true → completion.Done ≡ route_completion r
access_done route.NoSlot e = absurd (false≢true e)
access_done route.NoWord e = absurd (false≢true e)
access_done route.BadEnables e = absurd (false≢true e)
access_done route.LinkDown e = absurd (false≢true e)
access_done (route.FlrInProgress end) e = absurd (false≢true e)
access_done (route.Starting cause t crs) e = absurd (false≢true e)
access_done route.Access e = refl

refused-number : (r : Route) → is_access r ≡ false → completion_number (route_completion r) ≢ 0
refused-number route.NoSlot e = λ z. omega arith
refused-number route.NoWord e = λ z. omega arith
refused-number route.BadEnables e = λ z. omega arith
refused-number route.LinkDown e = λ z. omega arith
refused-number (route.FlrInProgress end) e = λ z. omega arith
refused-number (route.Starting cause t Shown) e = λ z. omega arith
refused-number (route.Starting cause t VisibilityOff) e = λ z. omega arith
refused-number (route.Starting cause t NotVendorId) e = λ z. omega arith
refused-number route.Access e = absurd (false≢true (sym e))

module _ (setup : Setup) (defaults : List ℕ) (s : State) (is_read : Bool) (q : Request) (value : ℕ) where
  abbrev at : Route
  at = routed setup s is_read q

  abbrev number : ℕ
  number = status_of setup defaults s (request is_read q value)

  abbrev ran : Ran State
  ran = run setup defaults s (request is_read q value)

  -- a request that doesn't reach the slot: its route decides the answer, and nothing else happens
  pub not_reached : is_access at ≡ false → ran ≡ record { after = s; reply = reply (route_completion at) no_tally (refused_data is_read q.enables at) }
  unfolding run effect answered read_effect write_effect
  not_reached e = by is_read e
    where
      by : (b : Bool) → is_access (routed setup s b q) ≡ false
          → run setup defaults s (request b q value) ≡ record { after = s; reply = reply (route_completion (routed setup s b q)) no_tally (refused_data b q.enables (routed setup s b q)) }
      by true e = rw e
      by false e = rw e

  pub reached : is_access at ≡ true → ran.reply.completion ≡ completion.Done
  unfolding run effect answered read_effect write_effect
  reached e = by is_read e
    where
      by : (b : Bool) → is_access (routed setup s b q) ≡ true → (run setup defaults s (request b q value)).reply.completion ≡ completion.Done
      by true e = rw e
      by false e = rw e

  request_completion : ran.reply.completion ≡ route_completion at
  request_completion = split (is_access at) (λ e. reached e ∙ access_done at e) (λ e. ap (λ (x : Ran State). x.reply.completion) (not_reached e))

  goes : (r : Route) → at ≡ r → number ≡ completion_number (route_completion r)
  goes r e = ap completion_number (request_completion ∙ ap route_completion e)

  -- a request that is answered 0 reaches the slot
  pub answered_0 : number ≡ 0 → is_access at ≡ true
  answered_0 z = split (is_access at) (λ e. e) (λ e. absurd (refused-number at e (sym (ap completion_number request_completion) ∙ z)))

  status_20 : setup.slots ≤ q.slot → number ≡ 20
  status_20 h = goes route.NoSlot (goes_no_slot setup s is_read q h)

  status_21 : (q.slot < setup.slots) × (63 < q.word) → number ≡ 21
  status_21 h = goes route.NoWord (goes_no_word setup s is_read q h.0 h.1)

  status_24 : (q.slot < setup.slots) × (q.word ≤ 63) × (15 < q.enables) → number ≡ 24
  status_24 h = goes route.BadEnables (goes_bad_enables setup s is_read q h.0 h.1 h.2)

  unsupported_18 : InRange setup.slots q → Unsupported s q.slot → number ≡ 18
  unsupported_18 h (link_down e) = goes route.LinkDown (goes_link_down setup s is_read q h e)
  unsupported_18 h (slot_down f) = goes route.LinkDown (goes_down setup s is_read q h f)
  unsupported_18 h (in_progress end t f l) =
      split s.port.link (λ e. goes (route.FlrInProgress end) (goes_flr setup s is_read q end t h e f l)) (λ e. goes route.LinkDown (goes_link_down setup s is_read q h e))

  status_18 : InRange setup.slots q × Unsupported s q.slot → number ≡ 18
  status_18 h = unsupported_18 h.0 h.1

  -- 16 or 17
  crs_status : IsCrs setup s q → number ≡ completion_number (crs_completion (crs_of s.port.control.visibility is_read q))
  crs_status c = by c.pending
    where
      up : s.port.link ≡ true
      up = split s.port.link (λ e. e) (λ e. absurd (c.supported (link_down e)))

      by : IsPending s q.slot → number ≡ completion_number (crs_completion (crs_of s.port.control.visibility is_read q))
      by (until cause t f) =
          goes (route.Starting cause t (crs_of s.port.control.visibility is_read q))
          (goes_starting setup s is_read q cause t c.in_range up f (not_progressing s q.slot t cause f c.supported))

  status_16 : IsCrs setup s q × ShowsCrs s.port.control.visibility is_read q → number ≡ 16
  status_16 h = crs_status h.0 ∙ ap (λ (c : Crs). completion_number (crs_completion c)) (crs_shown s.port.control.visibility is_read q h.1)

  status_17 : IsCrs setup s q × (ShowsCrs s.port.control.visibility is_read q → ⊥) → number ≡ 17
  status_17 h = crs_status h.0 ∙ ap completion_number (crs_retry s.port.control.visibility is_read q h.1)

  status_0 : InRange setup.slots q × (s.port.link ≡ true) × (phase_at s q.slot ≡ Ready) → number ≡ 0
  status_0 h = goes route.Access (goes_access setup s is_read q h.0 h.1 h.2)

  -- what each number says
  abbrev Because : ℕ → Type 0
  Because n =
      cond (eqb n 20) (setup.slots ≤ q.slot)
      (cond (eqb n 21) ((q.slot < setup.slots) × (63 < q.word))
      (cond (eqb n 24) ((q.slot < setup.slots) × (q.word ≤ 63) × (15 < q.enables))
      (cond (eqb n 18) (InRange setup.slots q × Unsupported s q.slot)
      (cond (eqb n 16) (IsCrs setup s q × ShowsCrs s.port.control.visibility is_read q)
      (cond (eqb n 17) (IsCrs setup s q × (ShowsCrs s.port.control.visibility is_read q → ⊥))
      (cond (eqb n 0) (InRange setup.slots q × (s.port.link ≡ true) × (phase_at s q.slot ≡ Ready)) ⊥))))))

  abbrev Why : Type 0
  Why = Reason (can_give (request is_read q value)) Because number

  -- reads and writes can both give it
  for_both : (n : ℕ) → T (one_of n (can_give (request true q value))) → T (one_of n (can_give (request false q value))) → T (one_of n (can_give (request is_read q value)))
  for_both n a b = by is_read
    where
      by : (t : Bool) → T (one_of n (can_give (request t q value)))
      by true = a
      by false = b

  reason : (n : ℕ) → Because n → T (one_of n (can_give (request is_read q value))) → number ≡ n → Why
  reason n w l e = record { number = n; why = w; listed = l; given = e }

  crs_reason : IsCrs setup s q → Why
  crs_reason c =
      let v = s.port.control.visibility in
      split (v && reads_vendor_id is_read q)
      (λ e.
      let w = shows v is_read q e in
      reason 16 (c, w) (subst (λ (b : Bool). T (one_of 16 (can_give (request b q value)))) (sym w.read) tt) (status_16 (c, w)))
      (λ e.
      let n : ShowsCrs v is_read q → ⊥ = λ w. not_both (shows_test v is_read q w) e in
      reason 17 (c, n) (for_both 17 tt tt) (status_17 (c, n)))

  phase_reason : InRange setup.slots q → s.port.link ≡ true → (p : Phase) → phase_at s q.slot ≡ p → Why
  phase_reason h e Down f = reason 18 (h, slot_down f) (for_both 18 tt tt) (status_18 (h, slot_down f))
  phase_reason h e Ready f = reason 0 (h, e, f) (for_both 0 tt tt) (status_0 (h, e, f))
  phase_reason h e (Pending cause t) f =
      split (progress_phase s.port.clock (Pending cause t))
      (λ p. let u = progresses s q.slot t cause f p in reason 18 (h, u) (for_both 18 tt tt) (status_18 (h, u)))
      (λ p. crs_reason (record { in_range = h; supported = supports s q.slot t cause e f p; pending = until cause t f }))

  why : Why
  why =
      split (ltb q.slot setup.slots)
      (λ a.
      let slot = ltb-true q.slot setup.slots a in
      split (ltb 63 q.word) (λ b. let h : (q.slot < setup.slots) × (63 < q.word) = (slot, ltb-true 63 q.word b) in reason 21 h (for_both 21 tt tt) (status_21 h))
      (λ b.
      let word = ltb-false 63 q.word b in
      split (ltb 15 q.enables) (λ c. let h : (q.slot < setup.slots) × (q.word ≤ 63) × (15 < q.enables) = (slot, word, ltb-true 15 q.enables c) in reason 24 h (for_both 24 tt tt) (status_24 h))
      (λ c.
      let h : InRange setup.slots q = record { slot = slot; word = word; enables = ltb-false 15 q.enables c } in
      split s.port.link (λ e. phase_reason h e (phase_at s q.slot) refl) (λ e. reason 18 (h, link_down e) (for_both 18 tt tt) (status_18 (h, link_down e))))))
      (λ a. let h = ltb-false q.slot setup.slots a in reason 20 h (for_both 20 tt tt) (status_20 h))

  -- each number exactly under its condition
  pub request_statuses : RequestStatuses setup defaults s is_read q value
  request_statuses =
      record {
        no_slot = (because why 20, status_20);
        no_word = (because why 21, status_21);
        bad_enables = (because why 24, status_24);
        unsupported = (because why 18, status_18);
        shown = (because why 16, status_16);
        retry = (because why 17, status_17);
        done = (because why 0, status_0);
      }

  -- and no other
  pub request-listed : T (one_of number (can_give (request is_read q value)))
  request-listed = in_list why

-- a request that reaches the slot's registers
pub access_facts : (setup : Setup) (s : State) (is_read : Bool) (q : Request) → is_access (routed setup s is_read q) ≡ true
    → InRange setup.slots q × (s.port.link ≡ true) × (phase_at s q.slot ≡ Ready)
access_facts setup s is_read q e = (request_statuses setup [] s is_read q 0).done.0 (ap completion_number (reached setup [] s is_read q 0 e))
