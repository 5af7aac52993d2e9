-- A call with bytes carried, as code runs it: the record that they begin, by a call of its own with nothing carried, and then a call on the rest of the
-- input.
use Prim.Native.Nat.{ℕ, suc, ◌+◌, ◌-◌, ◌≤◌, ◌<◌}
use mathlib.Core.Path.{◌≡◌, refl, ap, sym, ◌∙◌, subst}
use mathlib.Core.Bool.{true}
use mathlib.Core.List.{List, [], ◌∷◌, ◌++◌}
use native.Mathlib.Omega.{arith}
use lib.ListN.{length, take, drop, drop_of_length-le}
use lib.Seq.{drop-drop, drop_at}
use lib.Dec.{ltb}
use borrow.Author.Tests.{ltb-true}
use Rattle.bits.proofs.Tests.{both_right}
use Rattle.trace.specs.Format.{Bytes, known, body, longest, begun, next}
use Rattle.trace.specs.Bench.{Ran}
use Rattle.trace.specs.Feed.{kind_at, feed_open}
use Rattle.trace.specs.inner.Gathered.{whole_size}
use Rattle.trace.specs.Lent.{Left, refusal_or31}
use Rattle.trace.proofs.Records.{carrying, length_whole}
use Rattle.trace.proofs.Refusing.{refusal_accepted, goes_on, feeds_open}
use Rattle.trace.proofs.Loop.{Got, got_bytes, got_count, begins, turns, by_gather}
use Rattle.trace.proofs.Rejoin.{complete_itself, one_record, rejoin}
use Rattle.readiness.specs.declared.Status.{Status}
use Rattle.readiness.specs.declared.Setup.{Setup}
use Rattle.records.specs.State.{State}
use Rattle.records.specs.Sound.{Sound}
use Rattle.records.proofs.SoundFacts.{facts_sound}
use Rattle.records.specs.declared.Port.{Port}
use Rattle.demand3.specs.Held.{Held, held, opened, state_of, carried_of, held_of}
use Rattle.demand3.specs.Refusals.{sound_carried}
use Rattle.records.specs.Device.{device}
use Rattle.demand3.specs.Feeding.{bench, feeds}
use Rattle.demand3.proofs.Refusals.{refusal_held}
use Rattle.set_up.proofs.Stopping.{stops_none}
use Rattle.feed.proofs.Accepting.{Accepted}
use Rattle.demand3.proofs.Good.{Good, good_keeps}

-- ---- a sound state with nothing carried is accepted, where its lengths were accepted before
opened_carried : (port : Port) → sound_carried (opened port.dev) ≡ true
unfolding sound_carried begun
opened_carried port = refl

pub open_accepted : (setup : Setup) (defaults : List ℕ) (h : Held) → refusal_or31 (bench setup defaults) h ≡ 0 → (t : State)
    → length t.statuses ≡ length h.statuses → length t.live ≡ length h.live → length t.cells ≡ length h.cells → Sound setup t
    → refusal_or31 (bench setup defaults) (held_of (carrying t [])) ≡ 0
open_accepted setup defaults h e t s l c good =
    let a = refusal_accepted (bench setup defaults) h (goes_on (bench setup defaults) h e).0 in
    let h' = held_of (carrying t []) in
    sym
    (stops_none setup defaults h'
    (sym (refusal_held setup defaults h' (length h.statuses) (length h.live) (length h.cells) s l c)
    ∙ refusal_held setup defaults h (length h.statuses) (length h.live) (length h.cells) refl refl refl
    ∙ a.0)
    (opened_carried h'.port) (facts_sound setup t good) refl)

-- carried bytes are fewer than their record has
pub begun_less : (c input : List ℕ) → begun c ≡ true → length c ≤ suc (body (kind_at (c ++ input) 0))
unfolding begun
begun_less [] input b = omega arith
begun_less (k ∷ rest) input b = omega (arith, ltb-true (length rest) (body k) (both_right (known k) (ltb (length rest) (body k)) b))

-- a call on no bytes
no_bytes : (k : Setup) (defaults : List ℕ) (t : State) (room : List ℕ) → refusal_or31 (bench k defaults) (held_of (carrying t [])) ≡ 0
    → feeds k defaults (held_of (carrying t [])) [] room ≡ record { number = 0; consumed = 0; written = 0; held = held_of (carrying t []); answers = room }
unfolding feed_open
no_bytes k defaults t room e = feeds_open (bench k defaults) (held_of (carrying t [])) [] room e

-- ---- what a call with bytes carried can rely on, where the record that they begin is whole
pub record Joins (k : Setup) (defaults : List ℕ) (port : Port) (statuses : List Status) (live cells input answers : List ℕ) (size : ℕ) : Type 0 where
  pub not_refused : refusal_or31 (bench k defaults) (held port statuses live cells) ≡ 0
  pub accepted : Accepted k defaults (held port statuses live cells)
  pub carried_bytes : Bytes (carried_of port)
  pub input_bytes : Bytes input
  pub long : length (carried_of port) ≡ port.carried_len
  pub some : 0 < size
  pub whole : size ≡ whole_size (length answers) (next (carried_of port ++ input))

module _ {k : Setup} {defaults : List ℕ} {port : Port} {statuses : List Status} {live cells input answers : List ℕ} {size : ℕ} (j : Joins k defaults port statuses live cells input answers size) where
  -- what is lent, the state that it holds, and the call's trace
  abbrev lent : Held
  lent = held port statuses live cells

  abbrev s₀ : State
  s₀ = state_of lent

  abbrev trace : List ℕ
  trace = carried_of port ++ input

  pub got : Got trace size × (8 ≤ length answers)
  got =
      let g = (by_gather (device k defaults) s₀ (length answers) trace).0 (subst (λ (n : ℕ). 0 < n) j.whole j.some) in
      (subst (Got trace) (sym j.whole) g.0, g.1)

  -- the record
  abbrev pub first : List ℕ
  first = got.0.whole

  pub size-first : size ≡ length first
  size-first = got.0.count

  pub room-first : 8 ≤ length answers
  room-first = got.1

  pub bytes_first : take size trace ≡ first
  bytes_first = sym (got_bytes trace size got.0)

  pub few_first : size ≤ longest
  few_first = (got_count trace size got.0).few

  pub there_first : size ≤ length trace
  there_first = omega (arith, size-first, (length_whole trace first got.0.is).1)

  pub carried_less : port.carried_len ≤ size
  carried_less = omega (arith, j.long, begun_less (carried_of port) input j.accepted.begun, size-first, (length_whole trace first got.0.is).0)

  -- what it does
  abbrev pub ran : Ran State
  ran = (device k defaults).run s₀ first

  pub eight_answers : length ran.answer ≡ 8
  eight_answers = (device k defaults).eight s₀ first

  good : Good k defaults s₀ ran.state
  good =
      (turns (bench k defaults) (Good k defaults s₀) (good_keeps k defaults s₀) s₀ (carried_of port) input answers answers s₀ 0 0
      (begins (bench k defaults) (Good k defaults s₀) (good_keeps k defaults s₀) s₀ (carried_of port) input answers j.accepted.good j.accepted.begun j.carried_bytes j.input_bytes)
      size got.0 ran refl (omega (arith, room-first))).good

  -- what is lent between the two calls
  abbrev pub between : Held
  between = held_of (carrying ran.state [])

  pub between_accepted : refusal_or31 (bench k defaults) between ≡ 0
  between_accepted = open_accepted k defaults lent j.not_refused ran.state good.kept.statuses good.kept.live good.kept.cells good.kept.sound

  pub opened_accepted : refusal_or31 (bench k defaults) (held (opened port.dev) statuses live cells) ≡ 0
  opened_accepted = open_accepted k defaults lent j.not_refused s₀ refl refl refl j.accepted.good.kept.sound

  -- THE FIRST CALL
  pub first_call : (room : List ℕ) → length room ≡ 8
      → feeds k defaults (held (opened port.dev) statuses live cells) first room ≡ record { number = 0; consumed = length first; written = 8; held = between; answers = ran.answer }
  first_call room e =
      one_record (bench k defaults) s₀ (held (opened port.dev) statuses live cells) first room refl opened_accepted (complete_itself trace first got.0.is) e

  -- THEN THE REST
  pub then_rest : (x : Left Held) → x ≡ feeds k defaults between (drop (size - port.carried_len) input) (drop 8 answers)
      → ◌≡◌ {A = Left Held}
      (record { number = x.number; consumed = size - port.carried_len + x.consumed; written = 8 + x.written; held = x.held; answers = ran.answer ++ x.answers })
      (feeds k defaults lent input answers)
  then_rest x e =
      let m : size - port.carried_len + x.consumed ≡ length first + x.consumed - length (carried_of port) = omega (arith, carried_less, size-first, j.long) in
      let q : length first ≡ length (carried_of port) + (size - port.carried_len) = omega (arith, carried_less, size-first, j.long) in
      let d : drop (size - port.carried_len) input ≡ drop (length first) trace =
      sym (ap (λ (n : ℕ). drop n trace) q ∙ sym (drop-drop (size - port.carried_len) (length (carried_of port)) trace) ∙ ap (drop (size - port.carried_len)) (drop_at (carried_of port) input (length (carried_of port)) refl)) in
      ◌∙◌ {A = Left Held}
      (λ i. record { number = x.number; consumed = m i; written = 8 + x.written; held = x.held; answers = ran.answer ++ x.answers })
      (rejoin (bench k defaults) s₀ (carried_of port) input answers first lent between
      (λ i. record { state = s₀; carried = carried_of port; broken = (goes_on (bench k defaults) lent j.not_refused).1 i })
      j.not_refused j.accepted.begun got.0.is room-first refl between_accepted x
      (e ∙ ap (λ (l : List ℕ). feeds k defaults between l (drop 8 answers)) d))

  -- or there is none
  pub no_rest : length input ≡ size - port.carried_len
      → ◌≡◌ {A = Left Held}
      (record { number = 0; consumed = size - port.carried_len; written = 8; held = between; answers = ran.answer ++ drop 8 answers })
      (feeds k defaults lent input answers)
  no_rest e =
      let d : [] ≡ drop (size - port.carried_len) input = sym (drop_of_length-le input {i = size - port.carried_len} (omega arith)) in
      let z : size - port.carried_len ≡ size - port.carried_len + 0 = omega arith in
      ◌∙◌ {A = Left Held}
      (λ i. record { number = 0; consumed = z i; written = 8; held = between; answers = ran.answer ++ drop 8 answers })
      (then_rest (record { number = 0; consumed = 0; written = 0; held = between; answers = drop 8 answers })
      (sym (no_bytes k defaults ran.state (drop 8 answers) between_accepted) ∙ ap (λ (l : List ℕ). feeds k defaults between l (drop 8 answers)) d))
