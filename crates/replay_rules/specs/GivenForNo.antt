-- NUMBERS THAT A REPLAY CALL GIVES (02, Q-5): what each of 0 to 5 and 30 to 33 says of the set-up, of all that is lent and of the bytes that are left, exactly; the first that applies.
use Rattle.std.specs.Prelude.{ℕ, ◌-◌, ◌≤◌, ◌<◌, true, false, List, [], ◌∷◌, ◌++◌, ◌⊎◌, ◌↔◌, ◌≡◌, T, eqb, length, drop}
use Rattle.trace.specs.Format.{known, next, complete}
use Rattle.trace.specs.Lent.{Left}
use Rattle.readiness.specs.declared.Setup.{Setup}
use Rattle.records.specs.Statuses.{one_of}
use Rattle.capture.specs.Advances.{stamp_in, back, due}
use Rattle.capture.specs.Replay.{Progress}
use Rattle.capture.specs.Lent.{progress_in, matching}
use Rattle.demand3.specs.Held.{carried_of}
use Rattle.demand3.specs.Feeding.{bench}
use Rattle.demand3.specs.GivenForNo.{SetUpFacts, HeldSound, Accepted, FirstOf1To4}
use Rattle.replay_rules.specs.Replaying.{HeldWith, replays}

-- ---- what 30 to 33 are about: where the call leaves the replay, the bytes carried, and those that are not consumed
-- the kind byte is next: nothing is carried, and all 4 bytes of its stamp are there
pub record KindNext (carried : List ℕ) (r : Progress) (b : ℕ) (rest : List ℕ) : Type 0 where
  pub more : List ℕ
  pub next : rest ≡ b ∷ more
  pub none : carried ≡ []
  pub stamped : length r.stamp ≡ 4

module _ (carried : List ℕ) (r : Progress) (rest : List ℕ) where
  -- 32: at the kind byte the recorder went back
  pub record WentBack : Type 0 where
    pub byte : ℕ
    pub kind : KindNext carried r byte rest
    pub back : back r.earlier (stamp_in r.stamp) ≡ true

  -- 33: the kind is 01, and it did not
  pub record Advance : Type 0 where
    pub kind : KindNext carried r 1 rest
    pub forward : back r.earlier (stamp_in r.stamp) ≡ false

  -- any other kind, and it did not
  pub record Forward (byte : ℕ) : Type 0 where
    pub kind : KindNext carried r byte rest
    pub forward : back r.earlier (stamp_in r.stamp) ≡ false
    pub other : eqb byte 1 ≡ false

  -- an advance is due and not answered
  pub record AdvanceWaits : Type 0 where
    pub byte : ℕ
    pub forward : Forward byte
    pub due : r.answered < length (due r.earlier r.stamp)

  -- a record's last byte is next; where it is its kind byte too, all advances are answered
  pub record RecordWaits : Type 0 where
    pub byte : ℕ
    pub more : List ℕ
    pub front : rest ≡ byte ∷ more
    pub last : next (carried ++ byte ∷ []) ≡ complete (carried ++ byte ∷ [])
    pub answered : carried ≡ [] → Forward byte × (length (due r.earlier r.stamp) ≤ r.answered)

  -- the next kind is unknown, and all advances are answered
  pub record UnknownKind : Type 0 where
    pub byte : ℕ
    pub forward : Forward byte
    pub answered : length (due r.earlier r.stamp) ≤ r.answered
    pub unknown : known byte ≡ false

-- ---- The numbers
module _ (setup : Setup) (defaults : List ℕ) (h : HeldWith) where
  -- none of 1 to 5: nothing of 01's, and the state of the replay matches
  pub record Matched : Type 0 where
    pub accepted : Accepted setup defaults h.port
    pub matches : matching (bench setup defaults) h ≡ true

  -- and no number is given before a byte is looked at
  pub record Open : Type 0 where
    pub matched : Matched
    pub not_ended : h.replay.ended ≡ 0
    pub unbroken : h.port.port.broken ≡ false

module _ (setup : Setup) (defaults : List ℕ) (h : HeldWith) (input answers : List ℕ) where
  abbrev left : Left HeldWith
  left = replays setup defaults h input answers

  abbrev pub number_given : ℕ
  number_given = left.number

  abbrev pub carried_after : List ℕ
  carried_after = carried_of left.held.port.port

  abbrev pub progress_after : Progress
  progress_after = progress_in left.held.replay

  abbrev pub not_consumed : List ℕ
  not_consumed = drop left.consumed input

  abbrev pub room_left : ℕ
  room_left = length answers - left.written

  -- REPLAY'S NUMBER
  pub record ReplayNumbers : Type 0 where
    pub refused : FirstOf1To4 setup defaults h.port number_given
    -- 5: port or statuses unsound, or the state of the replay doesn't match
    pub is5 : (number_given ≡ 5) ↔ (SetUpFacts setup defaults h.port × ((HeldSound setup h.port × (matching (bench setup defaults) h ≡ true)) → ⊥))
    -- 32: ended by it before, or the recorder went back
    pub is32 : (number_given ≡ 32) ↔ ((Matched setup defaults h × (h.replay.ended ≡ 32)) ⊎ (Open setup defaults h × WentBack carried_after progress_after not_consumed))
    -- 33: ended by it before, or kind 01
    pub is33 : (number_given ≡ 33) ↔ ((Matched setup defaults h × (h.replay.ended ≡ 33)) ⊎ (Open setup defaults h × Advance carried_after progress_after not_consumed))
    -- 31: the trace is broken, or the next kind is unknown
    pub is31 : (number_given ≡ 31)
        ↔ ((Matched setup defaults h × (h.replay.ended ≡ 0) × (h.port.port.broken ≡ true)) ⊎ (Open setup defaults h × UnknownKind carried_after progress_after not_consumed))
    -- 30: an advance is due, or a record's last byte is next, and fewer than 8 answer bytes are left
    pub is30 : (number_given ≡ 30)
        ↔ (Open setup defaults h × (AdvanceWaits carried_after progress_after not_consumed ⊎ RecordWaits carried_after progress_after not_consumed) × (room_left < 8))
    -- 0: otherwise everything is consumed
    pub is0 : (number_given ≡ 0) ↔ (Open setup defaults h × (not_consumed ≡ []))
    pub no_other : T (one_of number_given (0 ∷ 1 ∷ 2 ∷ 3 ∷ 4 ∷ 5 ∷ 30 ∷ 31 ∷ 32 ∷ 33 ∷ []))

-- for every set-up and all that is lent, any input and any answers slice
abbrev pub EveryReplayNumber : Type 0
EveryReplayNumber = (setup : Setup) (defaults : List ℕ) (h : HeldWith) (input answers : List ℕ) → ReplayNumbers setup defaults h input answers
