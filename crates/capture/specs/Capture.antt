-- A capture: entries one after the other, each a stamp of 4 bytes and then one record other than 01. And the trace that it stands for.
use Rattle.std.specs.Prelude.{ℕ, ◌≡◌, false, List, [], ◌∷◌, ◌++◌, length, take, ltb, eqb, None, Some}
use Rattle.trace.specs.Format.{when◌then◌else◌, body, next, complete}
use Rattle.trace.specs.Feed.{kind_at}
use Rattle.capture.specs.Advances.{Earlier, stamp_in, due, advance_bytes}

-- ---- Whole entries
pub record Entry : Type 0 where
  pub stamp : List ℕ
  pub record_bytes : List ℕ

pub record IsEntry (e : Entry) : Type 0 where
  pub stamp : length e.stamp ≡ 4
  pub whole : next e.record_bytes ≡ complete e.record_bytes
  pub kind : eqb (kind_at e.record_bytes 0) 1 ≡ false

abbrev pub AreEntries : List Entry → Type 0
AreEntries [] = Unit {0}
AreEntries (e ∷ es) = IsEntry e × AreEntries es

abbrev pub entry_bytes : List Entry → List ℕ
entry_bytes [] = []
entry_bytes (e ∷ es) = (e.stamp ++ e.record_bytes) ++ entry_bytes es

-- THE TRACE OF WHOLE ENTRIES: before each record the advances from the stamp before
abbrev pub entry_trace : Earlier → List Entry → List ℕ
entry_trace before [] = []
entry_trace before (e ∷ es) = (advance_bytes (due before e.stamp) ++ e.record_bytes) ++ entry_trace (Some (stamp_in e.stamp)) es

abbrev pub last_stamp : Earlier → List Entry → Earlier
last_stamp before [] = before
last_stamp before (e ∷ es) = last_stamp (Some (stamp_in e.stamp)) es

-- ---- Any consumed bytes, byte by byte
-- where the consumed bytes leave off: the stamp of the last record whose kind byte is consumed, the bytes of a stamp, the bytes of a record that is not complete
pub record Place : Type 0 where
  pub earlier : Earlier
  pub stamp : List ℕ
  pub carried : List ℕ

abbrev pub start : Place
start = record { earlier = None; stamp = []; carried = [] }

-- what the next byte belongs to: a stamp, a record as its kind, or a record as a byte after that
pub data Role : Type 0 where
  of_stamp : Role
  of_kind : Role
  of_record : Role

abbrev pub role_of : (carried stamp : List ℕ) → Role
role_of [] stamp = when ltb (length stamp) 4 then of_stamp else of_kind
role_of (kind ∷ rest) stamp = of_record

-- a record's bytes are carried until it is whole
abbrev pub carried_after : List ℕ → ℕ → List ℕ
carried_after carried b = when ltb (length carried) (body (kind_at carried b)) then carried ++ b ∷ [] else []

abbrev pub place_at : Role → Place → ℕ → Place
place_at of_stamp p b = record { earlier = p.earlier; stamp = p.stamp ++ b ∷ []; carried = p.carried }
place_at of_kind p b = record { earlier = Some (stamp_in p.stamp); stamp = []; carried = carried_after p.carried b }
place_at of_record p b = record { earlier = p.earlier; stamp = p.stamp; carried = carried_after p.carried b }

-- what a consumed byte adds to the trace: a stamp's byte nothing; the kind byte its stamp's advances, and itself; a record's byte itself
abbrev pub adds_at : Role → Place → ℕ → List ℕ
adds_at of_stamp p b = []
adds_at of_kind p b = advance_bytes (due p.earlier p.stamp) ++ b ∷ []
adds_at of_record p b = b ∷ []

unfoldable pub place_after : Place → List ℕ → Place
place_after p [] = p
place_after p (b ∷ bs) = place_after (place_at (role_of p.carried p.stamp) p b) bs

unfoldable pub trace_from : Place → List ℕ → List ℕ
trace_from p [] = []
trace_from p (b ∷ bs) = let role = role_of p.carried p.stamp in adds_at role p b ++ trace_from (place_at role p b) bs

-- where consumed bytes leave off
unfoldable pub place_of : List ℕ → Place
place_of bytes = place_after start bytes

-- THE TRACE THAT A CAPTURE STANDS FOR, from the bytes of it that are consumed, and how many advances of the stamp in hand are answered (they
-- are answered before the kind byte is consumed, so the bytes alone do not say)
unfoldable pub stands_for : (bytes : List ℕ) → (answered : ℕ) → List ℕ
stands_for bytes answered =
    let p = place_of bytes in trace_from start bytes ++ advance_bytes (take answered (due p.earlier p.stamp))
