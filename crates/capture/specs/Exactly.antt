-- What advances, whole entries and a match of the state of a replay mean, exactly.
use Rattle.std.specs.Prelude.{ℕ, ◌+◌, ◌*◌, ◌≤◌, ◌<◌, ◌≡◌, true, false, ◌⊎◌, List, [], ◌∷◌, ◌++◌, length, take, None, Some, is_some}
use Rattle.bits.specs.Bytes.{Bytes, byte_at}
use Rattle.bits.specs.Orders.{Among}
use Rattle.times.specs.declared.Nanos.{Nanos}
use Rattle.ticks.specs.declared.Stamp.{Stamp}
use Rattle.ticks.specs.Ticks.{difference, went_back}
use Rattle.trace.specs.Format.{next, complete, begun}
use Rattle.trace.specs.Bench.{Device, Bench}
use Rattle.trace.specs.Calls.{Call, BytesIn}
use Rattle.capture.specs.Advances.{Earlier, stamp_in, back, between, due, advance, advance_bytes}
use Rattle.capture.specs.Capture.{Entry, AreEntries, entry_bytes, entry_trace, last_stamp, place_of, stands_for}
use Rattle.capture.specs.Replay.{Progress, fresh, matches, replay}
use Rattle.capture.specs.inner.Keeps.{Fits}

-- ---- Advances
abbrev pub total : List Nanos → ℕ
total [] = 0
total (t ∷ ts) = t.0 + total ts

-- all but the last are 4,294,967,295 ns, and the last is between 1 and that
abbrev pub LongestFirst : List Nanos → Type 0
LongestFirst [] = Unit {0}
LongestFirst (t ∷ []) = (0 < t.0) × (t.0 ≤ 4294967295)
LongestFirst (t ∷ u ∷ ts) = (t.0 ≡ 4294967295) × LongestFirst (u ∷ ts)

-- the advances of so many ticks
pub record AreAdvances (ticks : ℕ) (ts : List Nanos) : Type 0 where
  -- they add up to 4 ns a tick; none is 0, and each fits a record 01
  pub adds : total ts ≡ 4 * ticks
  pub each : (t : Nanos) → Among t ts → (0 < t.0) × (t.0 ≤ 4294967295)
  -- at most two, and of two the first is 4,294,967,295 ns
  pub few : length ts ≤ 2
  pub longest : (t u : Nanos) → ts ≡ t ∷ u ∷ [] → t.0 ≡ 4294967295
  -- none exactly if there are no ticks
  pub if_no_ticks : ticks ≡ 0 → ts ≡ []
  pub only_if_no_ticks : ts ≡ [] → ticks ≡ 0

-- the record 01 of an advance: 5 bytes, of which the last 4 say its ns, low byte first
pub record IsAdvance (t : Nanos) (record_bytes : List ℕ) : Type 0 where
  pub whole : next record_bytes ≡ complete record_bytes
  pub five : length record_bytes ≡ 5
  pub bytes : Bytes record_bytes
  pub kind : byte_at record_bytes 0 ≡ 1
  pub nanos : byte_at record_bytes 1 + 256 * byte_at record_bytes 2 + 65536 * byte_at record_bytes 3 + 16777216 * byte_at record_bytes 4 ≡ t.0

-- THE ADVANCES DUE after the 4 bytes of a stamp
pub record AdvancesExactly : Type 0 where
  -- they are those of the difference, where the recorder did not go back
  pub are : (earlier : Stamp) (stamp : List ℕ) → length stamp ≡ 4 → went_back (difference earlier (stamp_in stamp)) ≡ false
      → AreAdvances (difference earlier (stamp_in stamp)).0 (due (Some earlier) stamp)
  -- and no other list adds up to it so
  pub only : (earlier : Stamp) (stamp : List ℕ) → length stamp ≡ 4 → went_back (difference earlier (stamp_in stamp)) ≡ false
      → (ts : List Nanos) → LongestFirst ts → total ts ≡ 4 * (difference earlier (stamp_in stamp)).0 → ts ≡ due (Some earlier) stamp
  -- none where it went back, at the first stamp, or before the last byte of a stamp
  pub where_back : (earlier : Stamp) (stamp : List ℕ) → went_back (difference earlier (stamp_in stamp)) ≡ true → due (Some earlier) stamp ≡ []
  pub at_first : (stamp : List ℕ) → due None stamp ≡ []
  pub before_last : (earlier : Earlier) (stamp : List ℕ) → length stamp < 4 → due earlier stamp ≡ []
  -- each is one record
  pub records : (t : Nanos) → t.0 ≤ 4294967295 → IsAdvance t (advance t)

-- ---- Whole entries
-- What the bytes of whole entries stand for, and where they leave off
pub record Entries : Type 0 where
  pub trace : (es : List Entry) → AreEntries es → stands_for (entry_bytes es) 0 ≡ entry_trace None es
  pub place : (es : List Entry) → AreEntries es → place_of (entry_bytes es) ≡ record { earlier = last_stamp None es; stamp = []; carried = [] }
  -- with some bytes of a stamp after them, and n of its advances answered
  pub stamped : (es : List Entry) → AreEntries es → (stamp : List ℕ) → length stamp ≤ 4 → (n : ℕ)
      → stands_for (entry_bytes es ++ stamp) n ≡ entry_trace None es ++ advance_bytes (take n (due (last_stamp None es) stamp))
  -- and with a stamp and the start of a record
  pub carrying : (es : List Entry) → AreEntries es → (stamp carried : List ℕ) → length stamp ≡ 4 → begun carried ≡ true → 0 < length carried
      → stands_for (entry_bytes es ++ (stamp ++ carried)) 0 ≡ entry_trace None es ++ (advance_bytes (due (last_stamp None es) stamp) ++ carried)

-- ---- The state of a replay
-- what must hold of it and the port's carried bytes
pub record Matching (carried : List ℕ) (r : Progress) : Type 0 where
  pub ended : (r.ended ≡ 0) ⊎ ((r.ended ≡ 32) ⊎ (r.ended ≡ 33))
  -- at most 4 stamp bytes
  pub stamp_bytes : length r.stamp ≤ 4
  -- if bytes are carried: some record was begun, no stamp bytes, no advances answered, not ended, and the first carried byte is not 01
  pub carried_begun : 0 < length carried → is_some r.earlier ≡ true
  pub carried_stamp : 0 < length carried → r.stamp ≡ []
  pub carried_answered : 0 < length carried → r.answered ≡ 0
  pub carried_ended : 0 < length carried → r.ended ≡ 0
  pub carried_kind : 0 < length carried → byte_at carried 0 ≡ 1 → ⊥
  -- advances are answered only with 4 stamp bytes, no more than the stamp has, and none where the recorder went back
  pub answered_stamp : 0 < r.answered → length r.stamp ≡ 4
  pub answered_most : r.answered ≤ length (between r.earlier (stamp_in r.stamp))
  pub answered_forward : 0 < r.answered → back r.earlier (stamp_in r.stamp) ≡ false
  -- ended by 32: 4 stamp bytes, and the recorder went back; by 33: 4 stamp bytes, and it did not
  pub ended32 : r.ended ≡ 32 → (length r.stamp ≡ 4) × (back r.earlier (stamp_in r.stamp) ≡ true)
  pub ended33 : r.ended ≡ 33 → (length r.stamp ≡ 4) × (back r.earlier (stamp_in r.stamp) ≡ false)

-- IT MATCHES exactly if this holds
pub record MatchesExactly : Type 0 where
  pub holds : (carried : List ℕ) (r : Progress) → matches carried r ≡ true → Matching carried r
  pub enough : (carried : List ℕ) (r : Progress) → Matching carried r → matches carried r ≡ true

-- ---- What calls can leave
module _ {S : Type 0} (D : Device S) where
  -- the bench and the state of the replay, from call to call
  pub record Stand : Type 0 where
    pub bench : Bench S
    pub progress : Progress

  abbrev pub stand_after : Stand → List Call → Stand
  stand_after x [] = x
  stand_after x (c ∷ cs) =
      let f = replay D x.bench x.progress (length c.answers) c.input in stand_after (record { bench = f.bench; progress = f.progress }) cs

  -- some calls lead from x to an unbroken bench that carries these bytes, with this state of the replay
  pub record LeadsTo (x : Stand) (carried : List ℕ) (r : Progress) : Type 0 where
    pub calls : List Call
    pub bytes : BytesIn calls
    pub is_carried : (stand_after x calls).bench.carried ≡ carried
    pub is_unbroken : (stand_after x calls).bench.broken ≡ false
    pub is_progress : (stand_after x calls).progress ≡ r

  -- EACH STATE THAT MATCHES is left by some calls from a fresh start: the start of a record carried, or nothing, and what the code's types hold
  abbrev pub Reached : Type 0
  Reached =
      (s : S) (carried : List ℕ) (r : Progress) → matches carried r ≡ true → begun carried ≡ true → Bytes carried → Fits r
      → LeadsTo (record { bench = record { state = s; carried = []; broken = false }; progress = fresh }) carried r
