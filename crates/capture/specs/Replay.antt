-- One call of replay at an accepted bench, byte by byte.
use Rattle.std.specs.Prelude.{ℕ, suc, ◌+◌, ◌-◌, Bool, true, false, not, ◌&&◌, ◌||◌, List, [], ◌∷◌, ◌++◌, length, drop, leb, ltb, eqb, None, Some, is_some}
use Rattle.times.specs.declared.Nanos.{Nanos}
use Rattle.ticks.specs.declared.Stamp.{Stamp}
use Rattle.trace.specs.Format.{when◌then◌else◌}
use Rattle.trace.specs.Bench.{Device, Ran, Bench}
use Rattle.trace.specs.Feed.{Step, took, stop, byte}
use Rattle.trace.specs.Lent.{unless}
use Rattle.capture.specs.Advances.{Earlier, stamp_in, back, due, advance}
use Rattle.capture.specs.Capture.{Role, of_stamp, of_kind, of_record, role_of}

-- THE STATE OF A REPLAY: the stamp of the last record whose kind byte was consumed, the stamp bytes taken since, how many of that stamp's advances
-- are answered, and 0, or the number that ended the replay
pub record Progress : Type 0 where
  pub earlier : Earlier
  pub stamp : List ℕ
  pub answered : ℕ
  pub ended : ℕ

abbrev pub fresh : Progress
fresh = record { earlier = None; stamp = []; answered = 0; ended = 0 }

-- between two entries, the first of which has this stamp
abbrev pub after_entry : Stamp → Progress
after_entry stamp = record { earlier = Some stamp; stamp = []; answered = 0; ended = 0 }

-- ended is 0; or 32, where the recorder went back, or 33, where it did not, with all 4 bytes of the stamp
unfoldable pub end_fits : Progress → Bool
end_fits r = eqb r.ended 0 || (eqb (length r.stamp) 4 && eqb r.ended (when back r.earlier (stamp_in r.stamp) then 32 else 33))

-- IT MATCHES the port's carried bytes and the advances due (else 5). Between records: at most 4 stamp bytes, and no more answered than are due. In a
-- record: some record was begun, it is no 01, nothing of a stamp is there, none is answered, and it is not ended
unfoldable pub matches : (carried : List ℕ) → Progress → Bool
matches [] r = leb (length r.stamp) 4 && (leb r.answered (length (due r.earlier r.stamp)) && end_fits r)
matches (kind ∷ rest) r = is_some r.earlier && (eqb (length r.stamp) 0 && (eqb r.answered 0 && (eqb r.ended 0 && not (eqb kind 1))))

-- what one call comes to
pub record Replayed (S : Type 0) : Type 0 where
  pub bench : Bench S
  pub progress : Progress
  pub number : ℕ
  pub consumed : ℕ
  pub answers : List ℕ

-- what the next byte does: it is consumed, with answers or none; or the call ends with a number, and it is not consumed, but advances may have been answered all the same
pub data Does (S : Type 0) : Type 0 where
  takes : Bench S → Progress → List ℕ → Does S
  halts : ℕ → Bench S → Progress → List ℕ → Does S

-- ---- How the state of a replay moves
abbrev pub ended_with : ℕ → Progress → Progress
ended_with n r = record { earlier = r.earlier; stamp = r.stamp; answered = r.answered; ended = n }

abbrev pub more_stamp : ℕ → Progress → Progress
more_stamp b r = record { earlier = r.earlier; stamp = r.stamp ++ b ∷ []; answered = r.answered; ended = r.ended }

abbrev pub more_answered : ℕ → Progress → Progress
more_answered n r = record { earlier = r.earlier; stamp = r.stamp; answered = r.answered + n; ended = r.ended }

-- the kind byte is consumed: its stamp is the earlier one from now on
abbrev pub begins : Progress → Progress
begins r = record { earlier = Some (stamp_in r.stamp); stamp = []; answered = 0; ended = r.ended }

-- ---- The advances that are due
-- the device after those that were answered, how many they are, their answers, and whether one is left without room
pub record Advanced (S : Type 0) : Type 0 where
  pub state : S
  pub count : ℕ
  pub answers : List ℕ
  pub stuck : Bool

module _ {S : Type 0} where
  abbrev pub stays : S → Bool → Advanced S
  stays s stuck = record { state = s; count = 0; answers = []; stuck = stuck }

  abbrev pub one_more : Ran S → Advanced S → Advanced S
  one_more x y = record { state = y.state; count = suc y.count; answers = x.answer ++ y.answers; stuck = y.stuck }

  -- a byte as feed takes it: in a record, and where it begins one after the advances' answers a
  abbrev pub in_record : Progress → Step S → Does S
  in_record r (took p a) = takes p r a
  in_record r (stop n p) = halts n p r []

  abbrev pub at_kind : Progress → List ℕ → Step S → Does S
  at_kind r a (took p a') = takes p (begins r) (a ++ a')
  at_kind r a (stop n p) = halts n p r a

  abbrev pub still : ℕ → Bench S → Progress → List ℕ → Replayed S
  still n p r a = record { bench = p; progress = r; number = n; consumed = 0; answers = a }

  abbrev pub later : ℕ → List ℕ → Replayed S → Replayed S
  later n a f = record { bench = f.bench; progress = f.progress; number = f.number; consumed = n + f.consumed; answers = a ++ f.answers }

  abbrev pub go_on : ℕ → Does S → (Bench S → Progress → ℕ → Replayed S) → Replayed S
  go_on room (takes p r a) rest = later 1 a (rest p r (room - length a))
  go_on room (halts n p r a) rest = still n p r a

module _ {S : Type 0} (D : Device S) where
  -- each advance is answered, as long as there is room for its 8 bytes
  unfoldable pub advancing : S → (room : ℕ) → List Nanos → Advanced S
  advancing s room [] = stays s false
  advancing s room (t ∷ more) =
      when ltb room 8
      then stays s true
      else (let x = D.run s (advance t) in one_more x (advancing x.state (room - 8) more))

  -- 30, if an advance is without room; else the byte is taken as feed takes it (31, if there is no such kind)
  abbrev pub after_advances : Bench S → Progress → (room b : ℕ) → Advanced S → Does S
  after_advances p r room b x =
      let p' : Bench S = record { state = x.state; carried = p.carried; broken = p.broken } in
      let r' = more_answered x.count r in
      when x.stuck then halts 30 p' r' x.answers else at_kind r' x.answers (byte D p' (room - length x.answers) b)

  -- THE KIND BYTE: 32, then 33, then the advances that are due and not yet answered, then the byte
  unfoldable pub kind_byte : Bench S → Progress → (room b : ℕ) → Does S
  kind_byte p r room b =
      when back r.earlier (stamp_in r.stamp) then halts 32 p (ended_with 32 r) []
      else (when eqb b 1 then halts 33 p (ended_with 33 r) []
      else after_advances p r room b (advancing p.state room (drop r.answered (due r.earlier r.stamp))))

  abbrev pub byte_as : Role → Bench S → Progress → (room b : ℕ) → Does S
  byte_as of_stamp p r room b = takes p (more_stamp b r) []
  byte_as of_kind p r room b = kind_byte p r room b
  byte_as of_record p r room b = in_record r (byte D p room b)

  -- ONE CALL that isn't refused, at an unbroken bench, not ended: byte by byte, until a byte ends it or none is left
  unfoldable pub replay_open : Bench S → Progress → (room : ℕ) → List ℕ → Replayed S
  replay_open p r room [] = still 0 p r []
  replay_open p r room (b ∷ bs) =
      go_on room (byte_as (role_of p.carried r.stamp) p r room b) (λ p' r' room'. replay_open p' r' room' bs)

  -- an ended replay gives its number again, then a broken port 31, and nothing is consumed
  unfoldable pub replay : Bench S → Progress → (room : ℕ) → List ℕ → Replayed S
  replay p r room input =
      unless r.ended (λ n. still n p r []) (when p.broken then still 31 p r [] else replay_open p r room input)
